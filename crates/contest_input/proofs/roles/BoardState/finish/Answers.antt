use Rattle.std.proofs.Common.{[], sym, subst, ap, ◌∙◌}
use Rattle.contest_input.specs.declared.roles.Role.{Role}
use Rattle.contest_input.specs.Roles.{said_in, IsInRole}
use Rattle.contest_input.proofs.RoleFits.{wires-missing, nets-missing, groups-missing}
use Rattle.contest_input.proofs.roles.BoardState.finish.Goals as goal

pub returns-in-Wire : goal.returns-in-Wire
returns-in-Wire c =
    let g = c.args.self in
    let fits = subst (λ (r : Role). IsInRole r g.sizes g.draft g.left g.listed) c.in-Wire.is
    c.requires.fits in
    sym (ap (λ (r : Role). said_in r g.sizes g.draft g.left g.listed c.args.end []) c.in-Wire.is
    ∙ wires-missing g.sizes g.draft g.left c.args.end fits.some)

pub returns-in-Net : goal.returns-in-Net
returns-in-Net c =
    let g = c.args.self in
    let fits = subst (λ (r : Role). IsInRole r g.sizes g.draft g.left g.listed) c.in-Net.is c.requires.fits in
    sym (ap (λ (r : Role). said_in r g.sizes g.draft g.left g.listed c.args.end []) c.in-Net.is
    ∙ nets-missing g.sizes g.draft g.left g.listed c.args.end fits.some)

pub returns-in-Group : goal.returns-in-Group
returns-in-Group c =
    let g = c.args.self in
    let fits = subst (λ (r : Role). IsInRole r g.sizes g.draft g.left g.listed) c.in-Group.is
    c.requires.fits in
    sym (ap (λ (r : Role). said_in r g.sizes g.draft g.left g.listed c.args.end []) c.in-Group.is
    ∙ groups-missing g.sizes g.draft g.left g.listed c.args.end fits.some)
