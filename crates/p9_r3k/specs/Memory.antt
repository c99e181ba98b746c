-- The machine's registers and memory, as every machine has them.
pub use Rattle.p9_base.specs.Core.{Core, text_start, stack_start, stack_end, reg, with_reg, low_end, readable, writable, half_in, word_in, with_two, with_four, with_half_in, with_word_in, read_byte, read_half, read_word, with_byte, with_half, with_word, bytes_from, over, with_bytes}
