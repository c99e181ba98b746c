-- An instruction of a file without breaks is one of a valid module.
use Rattle.std.proofs.Common.{◌≡◌, ◌≢◌, ℕ, ◌+◌, ◌-◌, ◌^◌, ◌<◌, ◌≤◌, leb, Bool, true, false, ◌&&◌, cond, List, [], ◌∷◌, map, Option, Some, None, refl, sym, subst, ◌∙◌, arith}
use Rattle.std.specs.Prelude.{is_some, IsSome}
use Rattle.std.specs.Option.{option_or}
use Rattle.std.specs.List.{list_all}
use Rattle.std.proofs.lemmas.Bool.Decides.{nat_tests}
use Rattle.p9_abs.specs.declared.instructions.Op.{Op}
use Rattle.p9_abs.specs.declared.instructions.Operand.{Operand}
use Rattle.p9_abs.specs.declared.instructions.Operand.TheVariants as to
use Rattle.p9_abs.specs.declared.forms.Form.{Form}
use Rattle.p9_abs.specs.Forms.{form_of}
use Rattle.p9_abs.specs.Validity.{IsRegister, IsInRange, writes_last, IsWritable, IsInstruction}
use Rattle.p9_lex.specs.declared.token.Token.{Token}
use Rattle.p9_statement.specs.declared.operands.Argument as argument
use Rattle.p9_statement.specs.declared.operands.Argument.TheVariants as from
use Rattle.p9_statement.specs.declared.statements.Arguments.{Arguments}
use Rattle.p9_statement.specs.declared.statements.Arguments.TheVariants.{Zero, One, Two, Three}
use Rattle.p9_statement.specs.Statements.{listed, is_form, kept_register, named_register, written_register, last_register, reserved_among, is_within_frame}
use Rattle.p9_facts.specs.declared.facts.Fact.TheVariants.{Label}
use Rattle.p9_asm.specs.declared.breaks.Break.TheVariants.{NoLabel}
use Rattle.p9_asm.specs.Files.{File}
use Rattle.p9_asm.specs.Breaks.{label_in, missing_label, missing_among}
use Rattle.p9_asm.specs.Code.{target_of, operand_of, instruction_of}
use Rattle.p9_asm.proofs.Options.{Each, all_each}
use Rattle.p9_facts.proofs.Noting.{both}
use Rattle.p9_asm.proofs.Proper.{IsArgument, AreArguments}
use Rattle.p9_asm.proofs.Clean.{none_parts}
use Rattle.p9_asm.proofs.Formed.{forms_same}

-- Registers

test_none : (b : Bool) (r : ℕ) → cond b (Some r) None ≡ None → b ≡ false
test_none true r h = absurd (cc)
test_none false r h = refl

not_kept : (r k : ℕ) → (leb 26 r && leb r 28) ≡ false → (leb 26 k && leb k 28) ≡ true → r ≢ k
not_kept r k h t = λ e. let g : (leb 26 k && leb k 28) ≡ false = subst (λ x. (leb 26 x && leb x 28) ≡ false) e h in cc

register_range : (r : ℕ) → r < 32 → kept_register r ≡ None → IsRegister r
register_range r small h =
    let e = test_none (leb 26 r && leb r 28) r h in
    (small, not_kept r 26 e refl, not_kept r 27 e refl, not_kept r 28 e refl)

not_written : (r k : ℕ) → leb 29 r ≡ false → leb 29 k ≡ true → r ≢ k
not_written r k h t = λ e. let g : leb 29 k ≡ false = subst (λ x. leb 29 x ≡ false) e h in cc

-- Operands

frame_range : (frame o : ℕ) → leb (2 ^ 32) (o + frame) ≡ true → o < 2 ^ 32 → (2 ^ 32 - frame ≤ o) × (o < 2 ^ 32)
frame_range frame o h small =
    let le : 2 ^ 32 ≤ o + frame = grind (arith, nat_tests, h) in
    (omega (arith, le), small)

label_known : (file : File) (f w : ℕ) (b : Bool) → is_some (file.first (Label f w)) ≡ b → cond b None (Some (NoLabel w)) ≡ None → is_some (file.first (Label f w)) ≡ true
label_known file f w true e h = e
label_known file f w false e h = absurd (cc)

-- each label that a function has names an instruction
abbrev pub TargetsBelow : File → (f count : ℕ) → Type 0
TargetsBelow file f count = (w : ℕ) → is_some (file.first (Label f w)) ≡ true → target_of file f w < count

argument_range : (tokens : List Token) (file : File) (f frame count : ℕ) (a : argument.Argument) → TargetsBelow file f count → IsArgument tokens a → is_within_frame frame a ≡ true → named_register a ≡ None → missing_label file (label_in a) (Some f) ≡ None → IsInRange frame count (operand_of file f a)
unfolding operand_of
argument_range tokens file f frame count (from.Register r) t h in_frame free found = register_range r h free
argument_range tokens file f frame count (from.Constant c) t h in_frame free found = tt
argument_range tokens file f frame count (from.Address s o) t h in_frame free found = tt
argument_range tokens file f frame count (from.ArgumentAddress o) t h in_frame free found = h
argument_range tokens file f frame count (from.FrameAddress o) t h in_frame free found = frame_range frame o in_frame h
argument_range tokens file f frame count (from.Memory s o) t h in_frame free found = tt
argument_range tokens file f frame count (from.ArgumentMemory o) t h in_frame free found = h
argument_range tokens file f frame count (from.FrameMemory o) t h in_frame free found = frame_range frame o in_frame h
argument_range tokens file f frame count (from.RegisterMemory r o) t h in_frame free found = register_range r h free
argument_range tokens file f frame count (from.Label w) t h in_frame free found = t w (label_known file f w (is_some (file.first (Label f w))) refl found)
argument_range tokens file f frame count (from.Function s) t h in_frame free found = tt
argument_range tokens file f frame count from.Hi t h in_frame free found = tt
argument_range tokens file f frame count from.Lo t h in_frame free found = tt

or_left : (o p : Option ℕ) → option_or o p ≡ None → o ≡ None
or_left o p h = (none_parts o p h).0

all_parts : (frame : ℕ) (a : argument.Argument) (rest : List argument.Argument) → list_all (is_within_frame frame) (a ∷ rest) ≡ true → (is_within_frame frame a ≡ true) × (list_all (is_within_frame frame) rest ≡ true)
all_parts frame a rest h = both (is_within_frame frame a) (list_all (is_within_frame frame) rest) h

operands_range : (tokens : List Token) (file : File) (f frame count : ℕ) (op : Op) (given : Arguments) → TargetsBelow file f count → AreArguments tokens given → list_all (is_within_frame frame) (listed given) ≡ true → reserved_among op given ≡ None → missing_among file (Some f) (listed given) ≡ None → Each (IsInRange frame count) (map (operand_of file f) (listed given))
operands_range tokens file f frame count op Zero t h in_frame free found = tt
operands_range tokens file f frame count op (One a) t h in_frame free found = (
  argument_range tokens file f frame count a t h (all_parts frame a [] in_frame).0 (or_left (named_register a) (written_register (writes_last op) a) free)
      (none_parts (missing_label file (label_in a) (Some f)) None found).0,
  tt,
)
operands_range tokens file f frame count op (Two a b) t h in_frame free found =
    let within = all_parts frame a (b ∷ []) in_frame in
    let free_of = none_parts (named_register a) (last_register op b) free in
    let found_of = none_parts (missing_label file (label_in a) (Some f)) (missing_among file (Some f) (b ∷ [])) found in (
      argument_range tokens file f frame count a t h.0 within.0 free_of.0 found_of.0,
      (
        argument_range tokens file f frame count b t h.1 (all_parts frame b [] within.1).0 (or_left (named_register b) (written_register (writes_last op) b) free_of.1)
            (none_parts (missing_label file (label_in b) (Some f)) None found_of.1).0,
        tt,
      ),
    )
operands_range tokens file f frame count op (Three a b c) t h in_frame free found =
    let within = all_parts frame a (b ∷ c ∷ []) in_frame in
    let within_more = all_parts frame b (c ∷ []) within.1 in
    let free_of = none_parts (option_or (named_register a) (named_register b)) (last_register op c) free in
    let free_both = none_parts (named_register a) (named_register b) free_of.0 in
    let found_of = none_parts (missing_label file (label_in a) (Some f)) (missing_among file (Some f) (b ∷ c ∷ [])) found in
    let found_more = none_parts (missing_label file (label_in b) (Some f)) (missing_among file (Some f) (c ∷ [])) found_of.1 in (
      argument_range tokens file f frame count a t h.0 within.0 free_both.0 found_of.0,
      (
        argument_range tokens file f frame count b t h.1 within_more.0 free_both.1 found_more.0,
        (
          argument_range tokens file f frame count c t h.2 (all_parts frame c [] within_more.1).0 (or_left (named_register c) (written_register (writes_last op) c) free_of.1)
              (none_parts (missing_label file (label_in c) (Some f)) None found_more.1).0,
          tt,
        ),
      ),
    )

-- The operand that is written

written_free : (w : Bool) (file : File) (f : ℕ) (a : argument.Argument) → w ≡ true → written_register w a ≡ None → IsWritable (operand_of file f a ∷ [])
unfolding operand_of
written_free true file f (from.Register r) e h =
    let g = test_none (leb 29 r) r h in
    (not_written r 29 g refl, not_written r 30 g refl, not_written r 31 g refl)
written_free true file f _ e h = tt
written_free false file f a e h = absurd (cc)

writable_more : (x y : Operand) (rest : List Operand) → IsWritable (y ∷ rest) → IsWritable (x ∷ y ∷ rest)
writable_more (to.Reg r) y rest h = h
writable_more _ y rest h = h

last_free : (file : File) (f : ℕ) (op : Op) (a : argument.Argument) → writes_last op ≡ true → last_register op a ≡ None → IsWritable (operand_of file f a ∷ [])
last_free file f op a w h = written_free (writes_last op) file f a w (none_parts (named_register a) (written_register (writes_last op) a) h).1

destination_free : (file : File) (f : ℕ) (op : Op) (given : Arguments) → reserved_among op given ≡ None → writes_last op ≡ true → IsWritable (map (operand_of file f) (listed given))
destination_free file f op Zero free w = tt
destination_free file f op (One a) free w = last_free file f op a w free
destination_free file f op (Two a b) free w =
    writable_more (operand_of file f a) (operand_of file f b) [] (last_free file f op b w (none_parts (named_register a) (last_register op b) free).1)
destination_free file f op (Three a b c) free w =
    writable_more (operand_of file f a) (operand_of file f b) (operand_of file f c ∷ [])
    (writable_more (operand_of file f b) (operand_of file f c) [] (last_free file f op c w (none_parts (option_or (named_register a) (named_register b)) (last_register op c) free).1))

-- Instructions

some_is : (o : Option Form) → is_some o ≡ true → IsSome o
some_is None h = absurd (cc)
some_is (Some x) h = refl

pub instruction_valid : (tokens : List Token) (file : File) (f frame count : ℕ) (op : Op) (given : Arguments) → TargetsBelow file f count → AreArguments tokens given → is_form op given ≡ true → list_all (is_within_frame frame) (listed given) ≡ true → reserved_among op given ≡ None → missing_among file (Some f) (listed given) ≡ None → IsInstruction frame count (instruction_of file f op given)
instruction_valid tokens file f frame count op given t h form in_frame free found = record {
  form = some_is (form_of op (map (operand_of file f) (listed given))) (sym (forms_same file f op given) ∙ form);
  operands = all_each (IsInRange frame count) (map (operand_of file f) (listed given)) (operands_range tokens file f frame count op given t h in_frame free found);
  destination = destination_free file f op given free;
}
