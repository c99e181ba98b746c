-- The eight words at the head of an executable.
use Rattle.std.specs.Prelude.{ℕ, ◌+◌, ◌%◌, ◌==◌, List, ◌++◌, Bool, nat_lt, nat_le}
use mathlib.Core.Bool.{◌&&◌}
use Rattle.p9_base.specs.Numbers.{word_at, word_bytes}
use Rattle.p9_aout.specs.declared.format.Header.{Header}

-- of the big-endian R3000
abbrev pub mips_magic : ℕ
mips_magic = 0x407

-- the words in their places
abbrev pub header_of : List ℕ → Header
header_of bytes = record {
  magic = word_at bytes 0;
  text_size = word_at bytes 4;
  data_size = word_at bytes 8;
  bss_size = word_at bytes 12;
  syms_size = word_at bytes 16;
  entry = word_at bytes 20;
  sp_size = word_at bytes 24;
  pc_size = word_at bytes 28;
}

-- the words, one after the other
abbrev pub header_bytes : Header → List ℕ
header_bytes h =
    word_bytes h.magic ++ word_bytes h.text_size ++ word_bytes h.data_size ++ word_bytes h.bss_size
    ++ word_bytes h.syms_size ++ word_bytes h.entry ++ word_bytes h.sp_size ++ word_bytes h.pc_size

-- the address of the text, whose header lies before it
abbrev pub text_start : ℕ
text_start = 0x1020

-- some whole words of text, 32 MiB at most; 16 MiB of data and bss at most; the entry a word of the text
abbrev pub has_good_segments : Header → Bool
has_good_segments h =
    h.text_size % 4 == 0 && nat_lt 0 h.text_size && nat_le h.text_size 33554432
    && nat_le (h.data_size + h.bss_size) 16777216
    && h.entry % 4 == 0 && nat_le text_start h.entry && nat_lt h.entry (text_start + h.text_size)

-- the bytes of a whole file: no size counts the header, and bss has no bytes
abbrev pub file_size : Header → ℕ
file_size h = 32 + (h.text_size + h.data_size + h.syms_size + h.sp_size + h.pc_size)
