-- Bytes have one form.
use Rattle.std.proofs.Common.{◌≡◌, ℕ, List}
use Rattle.p9_first.specs.Tokens.{file_tokens}
use Rattle.p9_form.specs.declared.file.File.{File}
use Rattle.p9_form.specs.Items.{items_of}
use Rattle.p9_form.specs.Spelling.{HasForm}
use Rattle.p9_form.proofs.ScanLoop.{spelled_once}
use Rattle.p9_share.specs.Symbols.{module_of}
use Rattle.p9_suite.proofs.Shapes.{SameFile, file_form, same_tokens}

same_file : (bytes : List ℕ) (file other : File) → HasForm bytes (items_of file) → HasForm bytes (items_of other) → SameFile file other
same_file bytes file other a b =
    same_tokens file other
    (spelled_once (file_tokens (items_of file)) (file_tokens (items_of other)) bytes (file_form file a.file) (file_form other b.file) a.spelled b.spelled)

pub same_items : (bytes : List ℕ) (file other : File) → HasForm bytes (items_of file) → HasForm bytes (items_of other) → items_of file ≡ items_of other
same_items bytes file other a b = (same_file bytes file other a b).items

pub same_module : (bytes : List ℕ) (file other : File) → HasForm bytes (items_of file) → HasForm bytes (items_of other) → module_of file ≡ module_of other
same_module bytes file other a b = (same_file bytes file other a b).symbols
