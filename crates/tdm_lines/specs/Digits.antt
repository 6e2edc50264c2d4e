-- The decimal text of a number.
use Rattle.std.specs.Prelude.{ℕ, List}
use Rattle.std.specs.Fmt.{decimal}

-- its decimal digits, without leading zeros, as std prints them
abbrev pub digits : ℕ → List ℕ
digits n = decimal n
