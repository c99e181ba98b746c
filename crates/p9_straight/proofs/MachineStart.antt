-- The machine's memory before the first instruction: variables have their first values, and texts
-- are in their places.
use Rattle.std.proofs.Common.{◌≡◌, ℕ, ◌+◌, ◌-◌, ◌^◌, ◌<◌, ◌≤◌, List, ◌++◌, length, take, drop, slice_index, append_assoc, length-append, length-drop, refl, ap, ◌∙◌, arith}
use Rattle.std.specs.Prelude.{Contains}
use Rattle.std.proofs.lemmas.List.{take-append-le, drop-append-le, get_or-append-add}
use Rattle.std.proofs.Math.Seq.{drop-append-add, take-append_seam}
use Rattle.p9_base.specs.Numbers.{word_at}
use Rattle.p9_r3k.specs.Memory.{text_start}
use Rattle.p9_r3k.specs.Start.{zeros, page_from, low_bytes}
use Rattle.p9_r3k.proofs.Begins.{length-zeros, page_from-above, page_from-near, length-low_bytes}
use Rattle.p9_straight.specs.FormRun.{Values}
use Rattle.p9_straight.proofs.Placed.{AreVariables}
use Rattle.p9_straight.proofs.MachineSteps.{Fixed, Room}
use Rattle.p9_straight.proofs.MachineMemory.{Memory}

word_ahead : (front bytes : List ℕ) (k : ℕ) → word_at (front ++ bytes) (length front + k) ≡ word_at bytes k
word_ahead front bytes k =
    let one : length front + k + 1 ≡ length front + (k + 1) = omega arith in
    let two : length front + k + 2 ≡ length front + (k + 2) = omega arith in
    let three : length front + k + 3 ≡ length front + (k + 3) = omega arith in
    let a : slice_index (front ++ bytes) (length front + k) ≡ slice_index bytes k = get_or-append-add front bytes k 0 in
    let b : slice_index (front ++ bytes) (length front + k + 1) ≡ slice_index bytes (k + 1) = ap (λ j. slice_index (front ++ bytes) j) one ∙ get_or-append-add front bytes (k + 1) 0 in
    let c : slice_index (front ++ bytes) (length front + k + 2) ≡ slice_index bytes (k + 2) = ap (λ j. slice_index (front ++ bytes) j) two ∙ get_or-append-add front bytes (k + 2) 0 in
    let d : slice_index (front ++ bytes) (length front + k + 3) ≡ slice_index bytes (k + 3) = ap (λ j. slice_index (front ++ bytes) j) three ∙ get_or-append-add front bytes (k + 3) 0 in
    rw (a, b, c, d) refl

-- the text and the gap behind it
abbrev before_data : (text : List ℕ) → List ℕ
before_data text = text ++ zeros (page_from (text_start + length text) - (text_start + length text))

before_size : (text : List ℕ) → text_start + length (before_data text) ≡ page_from (text_start + length text)
before_size text =
    let end : ℕ = text_start + length text in
    let above : end ≤ page_from end = page_from-above end in
    let a : length (before_data text) ≡ length text + length (zeros (page_from end - end)) = length-append text (zeros (page_from end - end)) in
    let b : length (zeros (page_from end - end)) ≡ page_from end - end = length-zeros (page_from end - end) in
    omega (arith, a, b, above)

low_is : (text init : List ℕ) (bss : ℕ) → low_bytes text init bss ≡ before_data text ++ (init ++ zeros bss)
low_is text init bss = append_assoc (before_data text) init (zeros bss)

word_is : (text init : List ℕ) (bss a : ℕ) → page_from (text_start + length text) ≤ a → word_at (low_bytes text init bss) (a - text_start) ≡ word_at (init ++ zeros bss) (a - page_from (text_start + length text))
word_is text init bss a from =
    let begin : ℕ = page_from (text_start + length text) in
    let size : text_start + length (before_data text) ≡ begin = before_size text in
    let place : a - text_start ≡ length (before_data text) + (a - begin) = omega (arith, size, from) in
    ap (λ bytes. word_at bytes (a - text_start)) (low_is text init bss)
    ∙ (ap (λ k. word_at (before_data text ++ (init ++ zeros bss)) k) place
    ∙ word_ahead (before_data text) (init ++ zeros bss) (a - begin))

part_is : (text init : List ℕ) (bss a n : ℕ) → page_from (text_start + length text) ≤ a → a + n ≤ page_from (text_start + length text) + length init → take n (drop (a - text_start) (low_bytes text init bss)) ≡ take n (drop (a - page_from (text_start + length text)) init)
part_is text init bss a n from to =
    let begin : ℕ = page_from (text_start + length text) in
    let k : ℕ = a - begin in
    let size : text_start + length (before_data text) ≡ begin = before_size text in
    let place : a - text_start ≡ length (before_data text) + k = omega (arith, size, from) in
    let left : length (drop k init) ≡ length init - k = length-drop k init in
    ap (λ bytes. take n (drop (a - text_start) bytes)) (low_is text init bss)
    ∙ (ap (λ j. take n (drop j (before_data text ++ (init ++ zeros bss)))) place
    ∙ (ap (take n) (drop-append-add (before_data text) (init ++ zeros bss) k)
    ∙ (ap (take n) (drop-append-le k init (zeros bss) (omega (arith, from, to)))
    ∙ take-append-le n (drop k init) (zeros bss) (omega (arith, left, from, to)))))

text_front : (text init : List ℕ) (bss : ℕ) → take (length text) (low_bytes text init bss) ≡ text
text_front text init bss =
    let gap : List ℕ = zeros (page_from (text_start + length text) - (text_start + length text)) in
    ap (take (length text)) (low_is text init bss ∙ append_assoc text gap (init ++ zeros bss))
    ∙ take-append_seam text (gap ++ (init ++ zeros bss))

abbrev pub fixed : (text input : List ℕ) → Fixed
fixed text input = record { text = text; begin = page_from (text_start + length text); input = input }

pub start_room : (text init input : List ℕ) (bss : ℕ) → length text ≤ 2 ^ 24 → length init + bss ≤ 2 ^ 24 → Room (fixed text input) (low_bytes text init bss)
start_room text init input bss short small =
    let end : ℕ = text_start + length text in
    let size : text_start + length (low_bytes text init bss) ≡ page_from end + length init + bss = length-low_bytes text init bss in
    let near : page_from end ≤ end + 4095 = page_from-near end in
    record {
      holds = text_front text init bss;
      gap = page_from-above end;
      data_within = omega (arith, size);
      small = omega (arith, size, near, short, small);
    }

pub start_memory : (place : List ℕ → ℕ) (names : List (List ℕ)) (text init input : List ℕ) (bss : ℕ) (values : Values) → length text ≤ 2 ^ 24 → length init + bss ≤ 2 ^ 24 → AreVariables place names (page_from (text_start + length text)) init bss values → ((x : List ℕ) → Contains names x → values x < 2 ^ 32) → Memory (fixed text input) place names init values (low_bytes text init bss)
start_memory place names text init input bss values short small variables words =
    let begin : ℕ = page_from (text_start + length text) in
    let size : text_start + length (low_bytes text init bss) ≡ begin + length init + bss = length-low_bytes text init bss in
    record {
      room = start_room text init input bss short small;
      initial = omega (arith, size);
      aligned = variables.aligned;
      from = variables.from;
      within = λ x known. omega (arith, size, variables.within x known);
      apart = variables.apart;
      variables = λ x known. word_is text init bss (place x) (variables.from x known) ∙ variables.first x known;
      words = words;
      texts = λ own at is. part_is text init bss at (length own + 1) is.from is.within ∙ is.bytes;
    }
