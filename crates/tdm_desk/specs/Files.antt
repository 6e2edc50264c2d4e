-- The files of a desk: a finite map from names to bytes.
use Rattle.std.specs.Prelude.{ℕ, List, [], ◌++◌, Some, None, unwrap_or}
use Rattle.std.specs.Ordering.{nat_cmp}
use Rattle.std.specs.Cmp.Lexicographic.{slice_cmp}
use Rattle.std.specs.FinMap.{FinMap, get, insert}

-- what a file holds
abbrev pub Bytes : Type 0
Bytes = List ℕ

-- a file's name, as its bytes
abbrev pub Name : Type 0
Name = List ℕ

-- each file's bytes, by its name
abbrev pub Files : Type 0
Files = FinMap (slice_cmp nat_cmp) Bytes

-- what the file of this name holds, and no bytes where there is none
unfoldable pub bytes_under : Name → Files → Bytes
bytes_under name files = unwrap_or (get files name) []

-- the files with this one holding these bytes, and every other as it is
unfoldable pub with_file : Name → Bytes → Files → Files
with_file name bytes files = insert files name bytes

-- one file, where it is there, with more bytes at its end, and every other as it is
unfoldable pub with_more : Name → Bytes → Files → Files
with_more name more files =
    elim (get files name) [ Some bytes ↦ with_file name (bytes ++ more) files | None ↦ files ]
