-- Words that are read by one copy of their four bytes.
use Rattle.std.proofs.Common.{ℕ, ◌+◌, ◌≡◌, ◌<◌, List, slice_index, arith, take, drop, refl, ◌∙◌}
use Rattle.std.proofs.lemmas.List.{get_or-drop, get_or-take}
use Rattle.std.specs.Int.{w32, from_be_bytes, from_le_bytes}
use Rattle.p9_base.specs.declared.order.ByteOrder.{ByteOrder}
use Rattle.p9_base.specs.declared.order.ByteOrder.TheVariants.{Big, Little}
use Rattle.p9_base.specs.Core.{word_in}

part_index : (xs : List ℕ) (at i : ℕ) → i < 4 → slice_index (take 4 (drop at xs)) i ≡ slice_index xs (at + i)
part_index xs at i h = get_or-take 4 (drop at xs) i 0 h ∙ get_or-drop at xs i 0

word_part :
    (o : ByteOrder) (xs part : List ℕ) (at n : ℕ) → part ≡ take n (drop at xs) → n ≡ 4 → word_in o part 0 ≡ word_in o xs at
word_part Big xs part at n e four =
    let z : at + 0 ≡ at = omega arith in
    rw (
      e,
      four,
      part_index xs at 0 (omega arith),
      part_index xs at 1 (omega arith),
      part_index xs at 2 (omega arith),
      part_index xs at 3 (omega arith),
      z,
    ) refl
word_part Little xs part at n e four =
    let z : at + 0 ≡ at = omega arith in
    rw (
      e,
      four,
      part_index xs at 0 (omega arith),
      part_index xs at 1 (omega arith),
      part_index xs at 2 (omega arith),
      part_index xs at 3 (omega arith),
      z,
    ) refl

big_word : (part : List ℕ) → from_be_bytes w32 part ≡ word_in Big part 0
big_word part = omega arith

little_word : (part : List ℕ) → from_le_bytes w32 part ≡ word_in Little part 0
little_word part = omega arith

pub big_word_read :
    (xs part : List ℕ) (at n w : ℕ) → w ≡ from_be_bytes w32 part → part ≡ take n (drop at xs) → n ≡ 4 → w ≡ word_in Big xs at
big_word_read xs part at n w r e four = r ∙ (big_word part ∙ word_part Big xs part at n e four)

pub little_word_read :
    (xs part : List ℕ) (at n w : ℕ) → w ≡ from_le_bytes w32 part → part ≡ take n (drop at xs) → n ≡ 4 → w ≡ word_in Little xs at
little_word_read xs part at n w r e four = r ∙ (little_word part ∙ word_part Little xs part at n e four)
