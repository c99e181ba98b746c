-- A run begins with its parts in their places, and runs the words of its image.
use Rattle.std.proofs.Common.{ℕ, ◌+◌, ◌-◌, ◌^◌, ◌≡◌, ◌≤◌, ◌<◌, ◌++◌, Bool, true, nat_lt, refl, sym, ap, ◌∙◌, arith, List, length, take, slice_index, replicate, length-append}
use Rattle.std.proofs.Math.ListN.{get_or-append}
use Rattle.std.proofs.lemmas.List.{get_or-take, length-replicate}
use Rattle.std.proofs.lemmas.List.Elements.{All-append, All-replicate, All-set}
use Rattle.p9_base.specs.Words.{IsWord}
use Rattle.p9_base.specs.Numbers.{word_at}
use Rattle.p9_base.specs.declared.order.ByteOrder.{ByteOrder}
use Rattle.p9_base.specs.declared.order.ByteOrder.TheVariants.{Big, Little}
use Rattle.p9_r3k.specs.Memory.{Core, text_start, stack_start, stack_end, read_word, word_in}
use Rattle.p9_r3k.specs.Machine.{State, run}
use Rattle.p9_r3k.specs.Start.{zeros, page_from, low_bytes, start, in_order}
use Rattle.p9_r3k.specs.Laws.{LaidOut, KeepsText, ImageFits, AreBytes, HoldsWords}
use Rattle.p9_r3k.proofs.Kept.{run-keeps}

pub length-zeros : (n : ℕ) → length (zeros n) ≡ n
unfolding zeros
length-zeros n = length-replicate n 0

pub page_from-above : (a : ℕ) → a ≤ page_from a
page_from-above a = omega arith

pub page_from-near : (a : ℕ) → page_from a ≤ a + 4095
page_from-near a = omega arith

pub length-low_bytes :
    (text init : List ℕ) (bss : ℕ) →
    text_start + length (low_bytes text init bss) ≡ page_from (text_start + length text) + length init + bss
length-low_bytes text init bss =
    let end : ℕ = text_start + length text in
    let above : end ≤ page_from end = page_from-above end in
    let a : length (text ++ zeros (page_from end - end) ++ init ++ zeros bss)
    ≡ length (text ++ zeros (page_from end - end) ++ init) + length (zeros bss) =
    length-append (text ++ zeros (page_from end - end) ++ init) (zeros bss) in
    let b : length (text ++ zeros (page_from end - end) ++ init) ≡ length (text ++ zeros (page_from end - end)) + length init =
    length-append (text ++ zeros (page_from end - end)) init in
    let c : length (text ++ zeros (page_from end - end)) ≡ length text + length (zeros (page_from end - end)) =
    length-append text (zeros (page_from end - end)) in
    let d : length (zeros (page_from end - end)) ≡ page_from end - end = length-zeros (page_from end - end) in
    let e : length (zeros bss) ≡ bss = length-zeros bss in
    omega (arith, a, b, c, d, e, above)

pub start-laid :
    (text init : List ℕ) (bss entry : ℕ) (input : List ℕ) → ImageFits text init bss → LaidOut (start text init bss entry input).core
start-laid text init bss entry input fits =
    let end : ℕ = text_start + length text in
    let size : text_start + length (low_bytes text init bss) ≡ page_from end + length init + bss = length-low_bytes text init bss in
    let above : end ≤ page_from end = page_from-above end in
    let near : page_from end ≤ end + 4095 = page_from-near end in
    let small : length text ≤ 2 ^ 25 = fits.0 in
    let few : length init + bss ≤ 2 ^ 24 = fits.1 in
    record {
      text = omega arith;
      gap = above;
      data_and_bss = omega (arith, size);
      above = omega (arith, size, near, small, few);
      stack_size = length-zeros (2 ^ 24);
    }

-- Words below the data

pub index-kept : (n : ℕ) (xs ys : List ℕ) (i : ℕ) → take n ys ≡ take n xs → i < n → slice_index ys i ≡ slice_index xs i
index-kept n xs ys i e h =
    sym (get_or-take n ys i 0 h) ∙ (ap (λ l. slice_index l i) e ∙ get_or-take n xs i 0 h)

pub word_at-alike :
    (xs ys : List ℕ) (i : ℕ) → slice_index ys i ≡ slice_index xs i → slice_index ys (i + 1) ≡ slice_index xs (i + 1) →
    slice_index ys (i + 2) ≡ slice_index xs (i + 2) → slice_index ys (i + 3) ≡ slice_index xs (i + 3) → word_at ys i ≡ word_at xs i
word_at-alike xs ys i a b c d = rw (a, b, c, d) refl

pub word_at-kept : (n : ℕ) (xs ys : List ℕ) (i : ℕ) → take n ys ≡ take n xs → i + 4 ≤ n → word_at ys i ≡ word_at xs i
word_at-kept n xs ys i e h =
    word_at-alike xs ys i (index-kept n xs ys i e (omega arith)) (index-kept n xs ys (i + 1) e (omega arith))
    (index-kept n xs ys (i + 2) e (omega arith)) (index-kept n xs ys (i + 3) e (omega arith))

pub word_in-alike :
    (o : ByteOrder) (xs ys : List ℕ) (i : ℕ) → slice_index ys i ≡ slice_index xs i → slice_index ys (i + 1) ≡ slice_index xs (i + 1) →
    slice_index ys (i + 2) ≡ slice_index xs (i + 2) → slice_index ys (i + 3) ≡ slice_index xs (i + 3) → word_in o ys i ≡ word_in o xs i
word_in-alike Big xs ys i a b c d = word_at-alike xs ys i a b c d
word_in-alike Little xs ys i a b c d = rw (a, b, c, d) refl

pub word_in-kept :
    (o : ByteOrder) (n : ℕ) (xs ys : List ℕ) (i : ℕ) → take n ys ≡ take n xs → i + 4 ≤ n → word_in o ys i ≡ word_in o xs i
word_in-kept o n xs ys i e h =
    word_in-alike o xs ys i (index-kept n xs ys i e (omega arith)) (index-kept n xs ys (i + 1) e (omega arith))
    (index-kept n xs ys (i + 2) e (omega arith)) (index-kept n xs ys (i + 3) e (omega arith))

pub low_read :
    (c : Core) (b : Bool) (a : ℕ) → nat_lt a stack_start ≡ b → b ≡ true → read_word c a ≡ word_in c.order c.low (a - text_start)
low_read c b a e h = rw (e, h) refl

pub below_stack : (a : ℕ) → a < stack_start → nat_lt a stack_start ≡ true
below_stack a h = grind arith

pub read_word-kept :
    (c d : Core) (a : ℕ) → KeepsText c d → text_start ≤ a → a + 4 ≤ c.data_start → a < stack_start → read_word d a ≡ read_word c a
read_word-kept c d a kept from to below =
    low_read d true a (below_stack a below) refl
    ∙ (ap (λ o. word_in o d.low (a - text_start)) kept.order
    ∙ (word_in-kept c.order (c.data_start - text_start) c.low d.low (a - text_start) kept.below_data (omega arith)
    ∙ sym (low_read c true a (below_stack a below) refl)))

pub index-front : (xs ys zs ws : List ℕ) (i : ℕ) → i < length xs → slice_index (xs ++ ys ++ zs ++ ws) i ≡ slice_index xs i
index-front xs ys zs ws i h =
    let a : i < length (xs ++ ys) = omega (arith, length-append xs ys) in
    let b : i < length (xs ++ ys ++ zs) = omega (arith, length-append (xs ++ ys) zs, a) in
    get_or-append (xs ++ ys ++ zs) ws 0 i b ∙ (get_or-append (xs ++ ys) zs 0 i a ∙ get_or-append xs ys 0 i h)

pub word_in-front :
    (o : ByteOrder) (xs ys zs ws : List ℕ) (i : ℕ) → i + 4 ≤ length xs → word_in o (xs ++ ys ++ zs ++ ws) i ≡ word_in o xs i
word_in-front o xs ys zs ws i h =
    word_in-alike o xs (xs ++ ys ++ zs ++ ws) i (index-front xs ys zs ws i (omega arith)) (index-front xs ys zs ws (i + 1) (omega arith))
    (index-front xs ys zs ws (i + 2) (omega arith)) (index-front xs ys zs ws (i + 3) (omega arith))

pub start-word :
    (o : ByteOrder) (text init : List ℕ) (bss entry : ℕ) (input : List ℕ) (a : ℕ) → text_start ≤ a → a + 4 ≤ text_start + length text →
    a < stack_start → read_word (in_order o (start text init bss entry input)).core a ≡ word_in o text (a - text_start)
start-word o text init bss entry input a from to below =
    low_read (in_order o (start text init bss entry input)).core true a (below_stack a below) refl
    ∙ word_in-front o text (zeros (page_from (text_start + length text) - (text_start + length text))) init (zeros bss) (a - text_start)
    (omega arith)

order-laid : (o : ByteOrder) (s : State) → LaidOut s.core → LaidOut (in_order o s).core
order-laid o s h =
    record { text = h.text; gap = h.gap; data_and_bss = h.data_and_bss; above = h.above; stack_size = h.stack_size }

pub run-word :
    (o : ByteOrder) (text init : List ℕ) (bss entry : ℕ) (input : List ℕ) (n a : ℕ) → ImageFits text init bss → text_start ≤ a →
    a + 4 ≤ text_start + length text →
    read_word (run n (in_order o (start text init bss entry input))).core a ≡ word_in o text (a - text_start)
run-word o text init bss entry input n a fits from to =
    let small : length text ≤ 2 ^ 25 = fits.0 in
    let below : a < stack_start = omega (arith, small) in
    let above : text_start + length text ≤ page_from (text_start + length text) = page_from-above (text_start + length text) in
    let s : State = in_order o (start text init bss entry input) in
    let laid : LaidOut s.core = order-laid o (start text init bss entry input) (start-laid text init bss entry input fits) in
    read_word-kept s.core (run n s).core a (run-keeps n s laid) from (omega (arith, above)) below
    ∙ start-word o text init bss entry input a from to below

-- The start holds words

pub zeros-bytes : (n : ℕ) → AreBytes (zeros n)
unfolding zeros
zeros-bytes n = All-replicate (λ b. b < 2 ^ 8) n 0 (omega arith)

pub start-words :
    (text init : List ℕ) (bss entry : ℕ) (input : List ℕ) → AreBytes text → AreBytes init →
    HoldsWords (start text init bss entry input).core
start-words text init bss entry input ht hi =
    let gap : ℕ = page_from (text_start + length text) - (text_start + length text) in
    let P : ℕ → Type 0 = λ b. b < 2 ^ 8 in
    record {
      count = refl;
      zero_register = refl;
      registers = All-set IsWord (replicate 32 0) 29 stack_end (omega arith) (All-replicate IsWord 32 0 (omega arith));
      high = omega arith;
      less = omega arith;
      low_bytes =
          All-append P (text ++ zeros gap ++ init) (zeros bss)
          (All-append P (text ++ zeros gap) init (All-append P text (zeros gap) ht (zeros-bytes gap)) hi) (zeros-bytes bss);
      stack_bytes = zeros-bytes (2 ^ 24);
    }
