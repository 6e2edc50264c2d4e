use Rattle.std.proofs.Common.{refl}
use Rattle.std.specs.Fmt.{digits}
use Rattle.bound_cert.proofs.definitions.certificates_have_texts.Goals as goal

pub returns-clause-share : goal.returns-clause-share
unfolding digits
returns-clause-share c = refl

pub returns-clause-hop : goal.returns-clause-hop
unfolding digits
returns-clause-hop c = refl

pub returns-clause-growing_share : goal.returns-clause-growing_share
unfolding digits
returns-clause-growing_share c = refl

pub returns-clause-growing_hop : goal.returns-clause-growing_hop
unfolding digits
returns-clause-growing_hop c = refl
