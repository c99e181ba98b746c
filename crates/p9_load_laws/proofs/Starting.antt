-- The machine at the start of an executable stands as the straight machine before the first line.
use Rattle.std.proofs.Common.{ℕ, ◌+◌, ◌-◌, ◌^◌, ◌≡◌, false, List, [], ◌++◌, length, replicate, slice_set, refl, sym, ◌∙◌, ap, arith, length-append}
use Rattle.p9_base.specs.declared.halt.Ending.TheVariants.{Running}
use Rattle.p9_base.specs.declared.order.ByteOrder.TheVariants.{Big}
use Rattle.p9_base.specs.Core.{text_start, stack_end}
use Rattle.p9_base.specs.SystemCalls.{State}
use Rattle.p9_abs.specs.declared.modules.AModule.{AModule}
use Rattle.p9_abs.specs.BuiltIn.{linked}
use Rattle.p9_abs.specs.Programs.{Placing, init_bytes, bss_size, zero_bytes}
use Rattle.p9_r3k.proofs.Begins.{length-zeros, page_from-above}
use Rattle.p9_r3k.specs.Delayed.{line_address}
use Rattle.p9_r3k.specs.Start.{start, page_from, zeros}
use Rattle.p9_r3k.specs.declared.lines.Line.{Line}
use Rattle.p9_slot.specs.Runs.{at_first_line}
use Rattle.p9_image.specs.Text.{text_bytes}
use Rattle.p9_image_laws.proofs.Texts.{text_size}
use Rattle.p9_refine.specs.Refining.{before_start}
use Rattle.p9_load_laws.specs.Showing.{data_start_of, below_data, executable_start}

zeros_same : (n : ℕ) → zeros n ≡ zero_bytes n
unfolding zeros zero_bytes
zeros_same n = refl

-- a machine before the first line, with these bytes
abbrev first_state : (low stack : List ℕ) → (text_end data_start : ℕ) → (input : List ℕ) → State
first_state low stack text_end data_start input = record {
  core = record {
    order = Big;
    regs = slice_set (replicate 32 0) 29 stack_end;
    hi = 0;
    lo = 0;
    low = low;
    stack = stack;
    text_end = text_end;
    data_start = data_start;
    pc = text_start;
    next = text_start + 4;
    slot = false;
    loaded = 0;
    used = false;
    used_before = false;
    ending = Running;
  };
  left = input;
  out = [];
}

from_start : (text init : List ℕ) (bss : ℕ) (input : List ℕ) →
    start text init bss text_start input ≡ first_state (text ++ zeros (page_from (text_start + length text) - (text_start + length text)) ++ init ++ zeros bss) (zeros (2 ^ 24)) (text_start + length text) (page_from (text_start + length text)) input
from_start text init bss input = refl

from_modules : (modules : List AModule) (p : Placing) (below input : List ℕ) (text_end : ℕ) →
    at_first_line text_end (before_start modules p below input)
    ≡ first_state (below ++ init_bytes modules p ++ zero_bytes (bss_size (linked modules))) (zero_bytes (2 ^ 24)) text_end p.data_start input
from_modules modules p below input text_end = refl

pub text_end_of : (tables : List (List ℕ)) (new : List Line) → text_start + length (text_bytes tables new) ≡ line_address (length new)
text_end_of tables new = let s = text_size tables 0 new in omega (arith, s)

pub starts_same : (modules : List AModule) (p : Placing) (new : List Line) (tables : List (List ℕ)) (input : List ℕ) → p.data_start ≡ data_start_of new →
    executable_start modules p new tables input
    ≡ at_first_line (line_address (length new)) (before_start modules p (below_data (text_bytes tables new) new) input)
starts_same modules p new tables input begin =
    let text : List ℕ = text_bytes tables new in
    let init : List ℕ = init_bytes modules p in
    let bss : ℕ = bss_size (linked modules) in
    let end : ℕ = line_address (length new) in
    let whole : List ℕ → ℕ → List ℕ = λ z e. text ++ zeros (page_from e - e) ++ init ++ z in
    from_start text init bss input
    ∙ (ap (λ (e : ℕ). first_state (whole (zeros bss) e) (zeros (2 ^ 24)) e (page_from e) input) (text_end_of tables new)
    ∙ (ap (λ (z : List ℕ). first_state (whole z end) (zeros (2 ^ 24)) end (page_from end) input) (zeros_same bss)
    ∙ (ap (λ (z : List ℕ). first_state (whole (zero_bytes bss) end) z end (page_from end) input) (zeros_same (2 ^ 24))
    ∙ (ap (λ (d : ℕ). first_state (whole (zero_bytes bss) end) (zero_bytes (2 ^ 24)) end d input) (sym begin)
    ∙ sym (from_modules modules p (below_data text new) input end)))))

pub below_size : (tables : List (List ℕ)) (new : List Line) → text_start + length (below_data (text_bytes tables new) new) ≡ data_start_of new
below_size tables new =
    let text : List ℕ = text_bytes tables new in
    let end : ℕ = line_address (length new) in
    let size = text_end_of tables new in
    let above = page_from-above end in
    let sum = length-append text (zeros (page_from end - end)) in
    let gap = length-zeros (page_from end - end) in
    omega (arith, size, above, sum, gap)
