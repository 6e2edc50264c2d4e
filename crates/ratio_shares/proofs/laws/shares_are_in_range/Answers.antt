use Rattle.std.proofs.Common.{◌*◌, ◌≤◌, ◌^◌, get_or, arith}
use Rattle.std.proofs.lemmas.List.Elements.{All-map}
use Rattle.ratio_shares.specs.Shares.{share_in}
use Rattle.ratio_shares.proofs.Claims.{share-least, share-most}
use Rattle.ratio_shares.proofs.laws.shares_are_in_range.Goals as goal

pub returns-clause-least : goal.returns-clause-least
returns-clause-least c = λ numbers lanes few there.
    All-map (λ share. 2 ^ 34 ≤ share) (share_in numbers lanes) numbers
    (λ i d inside. share-least numbers lanes (get_or numbers i d) (omega arith) few there)

pub returns-clause-most : goal.returns-clause-most
returns-clause-most c = λ numbers lanes.
    All-map (λ share. share ≤ lanes * 2 ^ 64) (share_in numbers lanes) numbers
    (λ i d inside. share-most numbers lanes i d inside)
