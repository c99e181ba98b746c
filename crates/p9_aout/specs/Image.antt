-- What bytes are as an executable: an image, or the first fault.
use Rattle.std.specs.Prelude.{◌≡◌, ◌<◌, ◌≤◌, ℕ, ◌+◌, ◌%◌, ◌==◌, not, nat_lt, if◌then◌else◌, List, length, take, drop, Result, Ok, Err}
use Rattle.p9_aout.specs.declared.format.Image.{Image}
use Rattle.p9_aout.specs.declared.format.AoutFault.{AoutFault}
use Rattle.p9_aout.specs.declared.format.AoutFault.TheVariants.{BadMagic, ShortFile, BadSegment}
use Rattle.p9_aout.specs.declared.format.Header.{Header}
use Rattle.p9_aout.specs.Header.{mips_magic, header_of, has_good_segments, file_size, text_start}

-- what a machine starts from: the entry's address, the bytes of text and data, and the zeros after these
pub record ImageParts : Type 0 where
  pub entry : ℕ
  pub text : List ℕ
  pub init : List ℕ
  pub bss : ℕ

-- an image without its symbols
abbrev pub parts_of : Image → ImageParts
parts_of image = record { entry = image.entry; text = image.text; init = image.init; bss = image.bss }

-- the sizes and the entry that an executable may have
pub record IsWithinBounds (parts : ImageParts) : Type 0 where
  pub whole_words : length parts.text % 4 ≡ 0
  pub some_text : 0 < length parts.text
  pub most_text : length parts.text ≤ 33554432
  pub most_data : length parts.init + parts.bss ≤ 16777216
  pub entry_is_word : parts.entry % 4 ≡ 0
  pub entry_from : text_start ≤ parts.entry
  pub entry_below : parts.entry < text_start + length parts.text

-- text and data as they follow the header
abbrev pub parts_at : List ℕ → Header → ImageParts
parts_at bytes h = record {
  entry = h.entry;
  text = take h.text_size (drop 32 bytes);
  init = take h.data_size (drop (32 + h.text_size) bytes);
  bss = h.bss_size;
}

-- the image of a file's bytes, for the machine whose executables begin with this magic number, or the first of the
-- file's faults; what lies behind the data is passed over
unfoldable pub image_for : (magic : ℕ) → List ℕ → Result ImageParts AoutFault
image_for magic bytes =
    if nat_lt (length bytes) 32 then Err (ShortFile 32) else
    if not ((header_of bytes).magic == magic) then Err (BadMagic (header_of bytes).magic) else
    if not (has_good_segments (header_of bytes)) then Err BadSegment else
    if nat_lt (length bytes) (file_size (header_of bytes)) then Err (ShortFile (file_size (header_of bytes))) else
    Ok (parts_at bytes (header_of bytes))

-- for the big-endian R3000
abbrev pub image_of : List ℕ → Result ImageParts AoutFault
image_of bytes = image_for mips_magic bytes
