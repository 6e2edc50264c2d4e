-- What is wrong with a line that lists things, for nets and for groups alike.
use Rattle.std.specs.Prelude.{ℕ, nat_lt, nat_le, if◌then◌else◌, List, Option, None, Some}
use Rattle.std.specs.List.{list_any}
use Rattle.contest_input.specs.declared.kind.BoardKind.{BoardKind}
use Rattle.contest_input.specs.declared.kind.BoardKind.TheVariants.{TotalLimit}
use Rattle.contest_input.specs.declared.lists.Listing.{Listing}

-- listed: how many numbers this and all earlier lines of the section have
abbrev pub list_fault : Listing → ℕ → List ℕ → Option BoardKind
list_fault listing listed numbers =
    if list_any (nat_le listing.below) numbers then Some listing.unknown
    else (if nat_lt listing.most listed then Some TotalLimit
    else None)
