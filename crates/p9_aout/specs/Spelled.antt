-- The bytes of an image.
use Rattle.std.specs.Prelude.{ℕ, ◌+◌, List, ◌++◌, length, drop}
use Rattle.p9_aout.specs.declared.format.Image.{Image}
use Rattle.p9_aout.specs.declared.format.Header.{Header}
use Rattle.p9_aout.specs.Header.{mips_magic, header_bytes}
use Rattle.p9_aout.specs.Symbols.{symbol_bytes}

-- the sizes of the image's parts, and no table for debuggers
abbrev pub header_for : Image → Header
header_for image = record {
  magic = mips_magic;
  text_size = length image.text;
  data_size = length image.init;
  bss_size = image.bss;
  syms_size = length (symbol_bytes image.syms.items);
  entry = image.entry;
  sp_size = 0;
  pc_size = 0;
}

-- the header, the text, the data, the symbol entries
unfoldable pub spelled : Image → List ℕ
spelled image = header_bytes (header_for image) ++ (image.text ++ (image.init ++ symbol_bytes image.syms.items))

-- the bytes of a file from the symbol entries on
abbrev pub symbol_part : Image → List ℕ → List ℕ
symbol_part image bytes = drop (32 + (length image.text + length image.init)) bytes
