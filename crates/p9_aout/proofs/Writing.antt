-- What is written is read back.
use Rattle.std.proofs.Common.{◌≡◌, ◌<◌, ◌≤◌, ℕ, ◌+◌, ◌*◌, ◌/◌, ◌%◌, ◌^◌, true, ◌&&◌, eqb, ltb, leb, List, ◌++◌, length, take, drop, Result, Ok, Err, IfOk, arith, refl, ap, ◌∙◌, length-append, append_assoc}
use Rattle.std.proofs.lemmas.Bool.Decides.{nat_tests}
use Rattle.std.proofs.Math.Seq.{take-append_seam, drop-append_seam, drop-append-add}
use Rattle.p9_aout.specs.declared.format.Header.{Header}
use Rattle.p9_aout.specs.declared.format.Image.{Image}
use Rattle.p9_aout.specs.Header.{mips_magic, header_of, header_bytes, has_good_segments, file_size}
use Rattle.p9_aout.specs.Image.{image_of, parts_at, parts_of, ImageParts, IsWithinBounds}
use Rattle.p9_aout.specs.Symbols.{symbol_bytes}
use Rattle.p9_aout.specs.Spelled.{spelled, header_for}
use Rattle.p9_aout.proofs.Reading.{whole}

pub word_back : (w : ℕ) → w < 2 ^ 32 → w / 2 ^ 24 % 2 ^ 8 * 2 ^ 24 + w / 2 ^ 16 % 2 ^ 8 * 2 ^ 16 + w / 2 ^ 8 % 2 ^ 8 * 2 ^ 8 + w % 2 ^ 8 ≡ w
word_back w fits = omega arith

-- the words of a header have 32 bits
record HasWords (h : Header) : Type 0 where
  magic : h.magic < 2 ^ 32
  text_size : h.text_size < 2 ^ 32
  data_size : h.data_size < 2 ^ 32
  bss_size : h.bss_size < 2 ^ 32
  syms_size : h.syms_size < 2 ^ 32
  entry : h.entry < 2 ^ 32
  sp_size : h.sp_size < 2 ^ 32
  pc_size : h.pc_size < 2 ^ 32

header_back : (h : Header) (rest : List ℕ) → HasWords h → h ≡ header_of (header_bytes h ++ rest)
header_back h rest fits =
    rw (
      word_back h.magic fits.magic,
      word_back h.text_size fits.text_size,
      word_back h.data_size fits.data_size,
      word_back h.bss_size fits.bss_size,
      word_back h.syms_size fits.syms_size,
      word_back h.entry fits.entry,
      word_back h.sp_size fits.sp_size,
      word_back h.pc_size fits.pc_size,
    ) refl

text_back : (size : ℕ) (head text rest : List ℕ) → length head ≡ 32 → size ≡ length text →
    take size (drop 32 (head ++ (text ++ rest))) ≡ text
text_back size head text rest l t =
    rw (t, ← l, drop-append_seam head (text ++ rest)) (take-append_seam text rest)

init_back : (skipped size : ℕ) (head text init rest : List ℕ) → length head ≡ 32 → skipped ≡ length text → size ≡ length init →
    take size (drop (32 + skipped) (head ++ (text ++ (init ++ rest)))) ≡ init
init_back skipped size head text init rest l t d =
    rw (d, t, ← l, drop-append-add head (text ++ (init ++ rest)) (length text), drop-append_seam text (init ++ rest)) (take-append_seam init rest)

parts_back : (h : Header) (head text init rest : List ℕ) → length head ≡ 32 → h.text_size ≡ length text → h.data_size ≡ length init →
    parts_at (head ++ (text ++ (init ++ rest))) h ≡ record { entry = h.entry; text = text; init = init; bss = h.bss_size }
parts_back h head text init rest l t d =
    rw (text_back h.text_size head text (init ++ rest) l t, init_back h.text_size h.data_size head text init rest l t d) refl

-- the bytes of a header, text, data and more are the image of these
image_back : (h : Header) (text init rest : List ℕ) → HasWords h → h.magic ≡ mips_magic → has_good_segments h ≡ true →
    h.text_size ≡ length text → h.data_size ≡ length init → h.syms_size + h.sp_size + h.pc_size ≤ length rest →
    image_of (header_bytes h ++ (text ++ (init ++ rest))) ≡ Ok (record { entry = h.entry; text = text; init = init; bss = h.bss_size })
image_back h text init rest fits magic good t d more =
    let head = header_bytes h in
    let bytes = head ++ (text ++ (init ++ rest)) in
    let long : file_size h ≤ length bytes = omega (arith, length-append head (text ++ (init ++ rest)), length-append text (init ++ rest), length-append init rest) in
    whole mips_magic bytes h (header_back h (text ++ (init ++ rest)) fits) magic good long
    ∙ ap (λ (p : ImageParts). Ok p) (parts_back h head text init rest refl t d)

good_test : (text init bss entry : ℕ) → text % 4 ≡ 0 → 0 < text → text ≤ 33554432 → init + bss ≤ 16777216 → entry % 4 ≡ 0 → 4128 ≤ entry → entry < 4128 + text →
    (eqb (text % 4) 0 && ltb 0 text && leb text 33554432 && leb (init + bss) 16777216
    && eqb (entry % 4) 0 && leb 4128 entry && ltb entry (4128 + text)) ≡ true
good_test text init bss entry a b c d e f g = grind (arith, nat_tests)

pub read_back : (image : Image) → IsWithinBounds (parts_of image) → length (symbol_bytes image.syms.items) < 2 ^ 32 → image_of (spelled image) ≡ Ok (parts_of image)
unfolding spelled
read_back image bounds symbols =
    let good = good_test (length image.text) (length image.init) image.bss image.entry bounds.whole_words bounds.some_text bounds.most_text bounds.most_data bounds.entry_is_word bounds.entry_from bounds.entry_below in
    image_back (header_for image) image.text image.init (symbol_bytes image.syms.items)
    (record {
      magic = omega arith;
      text_size = omega (arith, bounds.most_text);
      data_size = omega (arith, bounds.most_data);
      bss_size = omega (arith, bounds.most_data);
      syms_size = symbols;
      entry = omega (arith, bounds.entry_below, bounds.most_text);
      sp_size = omega arith;
      pc_size = omega arith;
    }) refl good refl refl (omega arith)

pub bytes_read_back : {E : Type 0} (answer : Result (List ℕ) E) (image : Image) → IfOk answer (λ bytes. bytes ≡ spelled image) →
    IsWithinBounds (parts_of image) → length (symbol_bytes image.syms.items) < 2 ^ 32 →
    IfOk answer (λ bytes. image_of bytes ≡ Ok (parts_of image))
bytes_read_back (Ok bytes) image is bounds symbols = rw is (read_back image bounds symbols)
bytes_read_back (Err e) image is bounds symbols = tt

-- eight lists appended in turn
pub eight_appended : (s s1 s2 s3 s4 s5 s6 s7 s8 a b c d e f g h : List ℕ) →
    s1 ≡ s ++ a → s2 ≡ s1 ++ b → s3 ≡ s2 ++ c → s4 ≡ s3 ++ d → s5 ≡ s4 ++ e → s6 ≡ s5 ++ f → s7 ≡ s6 ++ g → s8 ≡ s7 ++ h →
    s8 ≡ s ++ (a ++ b ++ c ++ d ++ e ++ f ++ g ++ h)
eight_appended s s1 s2 s3 s4 s5 s6 s7 s8 a b c d e f g h p1 p2 p3 p4 p5 p6 p7 p8 =
    rw (p8, p7, p6, p5, p4, p3, p2, p1) (simp append_assoc)
