-- The image of bytes, test by test.
use Rattle.std.proofs.Common.{◌≡◌, ◌≢◌, ◌<◌, ◌≤◌, ℕ, ◌+◌, ◌%◌, true, false, ◌&&◌, eqb, ltb, leb, List, length, drop, Ok, Err, arith, refl, ◌⊎◌, inl, inr, length-drop}
use Rattle.std.proofs.lemmas.Bool.{cases_lt, cases_eq, cases_Bool}
use Rattle.std.proofs.lemmas.Bool.Decides.{nat_tests}
use Rattle.std.proofs.lemmas.List.{length-take-le}
use Rattle.p9_aout.specs.declared.format.Header.{Header}
use Rattle.p9_aout.specs.declared.format.AoutFault.{AoutFault}
use Rattle.p9_aout.specs.declared.format.AoutFault.TheVariants.{BadMagic, ShortFile, BadSegment, Memory}
use Rattle.p9_aout.specs.Header.{mips_magic, header_of, has_good_segments, file_size}
use Rattle.p9_aout.specs.Image.{image_for, image_of, parts_at, ImageParts, IsWithinBounds}

pub no_header : (magic : ℕ) (bytes : List ℕ) → length bytes < 32 → image_for magic bytes ≡ Err (ShortFile 32)
unfolding image_for
no_header magic bytes short = grind (arith, nat_tests)

pub other_magic : (magic : ℕ) (bytes : List ℕ) (h : Header) → h ≡ header_of bytes → 32 ≤ length bytes → h.magic ≢ magic → image_for magic bytes ≡ Err (BadMagic h.magic)
unfolding image_for
other_magic magic bytes h is long other = grind (arith, nat_tests)

pub bad_segment : (magic : ℕ) (bytes : List ℕ) (h : Header) → h ≡ header_of bytes → 32 ≤ length bytes → h.magic ≡ magic → has_good_segments h ≡ false → image_for magic bytes ≡ Err BadSegment
unfolding image_for
bad_segment magic bytes h is long same bad = grind (arith, nat_tests)

pub cut_short : (magic : ℕ) (bytes : List ℕ) (h : Header) → h ≡ header_of bytes → 32 ≤ length bytes → h.magic ≡ magic → has_good_segments h ≡ true → length bytes < file_size h → image_for magic bytes ≡ Err (ShortFile (file_size h))
unfolding image_for
cut_short magic bytes h is long same good short = grind (arith, nat_tests)

pub whole : (magic : ℕ) (bytes : List ℕ) (h : Header) → h ≡ header_of bytes → h.magic ≡ magic → has_good_segments h ≡ true → file_size h ≤ length bytes → image_for magic bytes ≡ Ok (parts_at bytes h)
unfolding image_for
whole magic bytes h is same good long = grind (arith, nat_tests)

-- the numbers of a header whose segments are good
good_numbers : (text init bss entry : ℕ) →
    (eqb (text % 4) 0 && ltb 0 text && leb text 33554432 && leb (init + bss) 16777216
    && eqb (entry % 4) 0 && leb 4128 entry && ltb entry (4128 + text)) ≡ true →
    (text % 4 ≡ 0) × (0 < text) × (text ≤ 33554432) × (init + bss ≤ 16777216) × (entry % 4 ≡ 0) × (4128 ≤ entry) × (entry < 4128 + text)
good_numbers text init bss entry good = grind (arith, nat_tests)

pub within_bounds : (bytes : List ℕ) (h : Header) → has_good_segments h ≡ true → file_size h ≤ length bytes → IsWithinBounds (parts_at bytes h)
within_bounds bytes h good long =
    let facts = good_numbers h.text_size h.data_size h.bss_size h.entry good in
    let text = length-take-le h.text_size (drop 32 bytes) (omega (arith, length-drop 32 bytes)) in
    let init = length-take-le h.data_size (drop (32 + h.text_size) bytes) (omega (arith, length-drop (32 + h.text_size) bytes)) in
    record {
      whole_words = rw text facts.0;
      some_text = rw text facts.1;
      most_text = rw text facts.2;
      most_data = rw init facts.3;
      entry_is_word = facts.4;
      entry_from = facts.5;
      entry_below = rw text facts.6;
    }

-- what bytes may be: refused, not for want of memory, or a file with good segments and all its bytes
image_cases : (bytes : List ℕ) →
    ((fault : AoutFault) × (image_of bytes ≡ Err fault) × (fault ≢ Memory))
    ⊎ ((has_good_segments (header_of bytes) ≡ true) × (file_size (header_of bytes) ≤ length bytes) × (image_of bytes ≡ Ok (parts_at bytes (header_of bytes))))
image_cases bytes =
    let h = header_of bytes in
    elim (cases_lt (length bytes) 32) [
      | inl short ↦ inl (ShortFile 32, no_header mips_magic bytes short, λ e. cc)
      | inr long ↦ elim (cases_eq h.magic mips_magic) [
        | inr other ↦ inl (BadMagic h.magic, other_magic mips_magic bytes h refl long other, λ e. cc)
        | inl magic ↦ elim (cases_Bool (has_good_segments h)) [
          | inr bad ↦ inl (BadSegment, bad_segment mips_magic bytes h refl long magic bad, λ e. cc)
          | inl good ↦ elim (cases_lt (length bytes) (file_size h)) [
            | inl cut ↦ inl (ShortFile (file_size h), cut_short mips_magic bytes h refl long magic good cut, λ e. cc)
            | inr all ↦ inr (good, all, whole mips_magic bytes h refl magic good all)
          ]
        ]
      ]
    ]

-- for callers: want of memory is no fault of bytes
pub not_memory : (bytes : List ℕ) → image_of bytes ≢ Err Memory
not_memory bytes is =
    elim (image_cases bytes) [ inl refused ↦ refused.2 (cc (refused.1)) | inr read ↦ cc (read.2) ]

-- for callers: an image is within the bounds
pub image_within_bounds : (bytes : List ℕ) (parts : ImageParts) → image_of bytes ≡ Ok parts → IsWithinBounds parts
image_within_bounds bytes parts is =
    elim (image_cases bytes) [
      | inl refused ↦ cc (refused.1)
      | inr read ↦
          let same : parts_at bytes (header_of bytes) ≡ parts = cc (read.2) in
          rw same at (within_bounds bytes (header_of bytes) read.0 read.1)
    ]
