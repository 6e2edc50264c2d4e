-- The files in a list, where the first of a name counts.
use Rattle.std.specs.Prelude.{List, [], ◌∷◌, string_bytes}
use Rattle.std.specs.FinMap.{empty}
use Rattle.tdm_desk.specs.declared.file_table.NamedFile.{NamedFile}
use Rattle.tdm_desk.specs.Files.{Files, with_file}

unfoldable pub files_in : List NamedFile → Files
files_in [] = empty
files_in (file ∷ rest) = with_file (string_bytes file.name) file.bytes.items (files_in rest)
