-- The modules of files of the form are valid.
use Rattle.std.proofs.Common.{◌≡◌, ◌≢◌, ◌<◌, ◌≤◌, inl, ℕ, zero, suc, ◌*◌, ◌^◌, Bool, true, false, not, ◌&&◌, ◌||◌, IsTrue, nat_le, List, [], ◌∷◌, ◌++◌, length, map, slice_index_or, Option, Some, None, All, AllPairs, refl, sym, ap, ◌∙◌, subst, arith, length-append, codes}
use Rattle.std.specs.Prelude.{◌==◌}
use Rattle.std.specs.List.{list_all, list_any}
use Rattle.std.proofs.lemmas.Bool.Decides.{nat_tests}
use Rattle.std.proofs.lemmas.List.Kept.{AllPairs-cons}
use Rattle.std.proofs.lemmas.List.Elements.{All-append}
use Rattle.p9_base.specs.Numbers.{word_bytes}
use Rattle.p9_abs.specs.declared.instructions.Op.TheVariants.{Ret}
use Rattle.p9_abs.specs.declared.modules.DataPiece.TheVariants.{Raw}
use Rattle.p9_abs.specs.declared.modules.Body.{Body}
use Rattle.p9_abs.specs.declared.modules.Body.TheVariants.{Declared, Used, Data, Common}
use Rattle.p9_abs.specs.declared.modules.AModule.{AModule}
use Rattle.p9_abs.specs.declared.modules.Symbol.{Symbol}
use Rattle.p9_abs.specs.Modules.{named_by_operand, named_by_piece, operands_of, pieces_of}
use Rattle.p9_abs.specs.Validity.{IsGraphic, IsName, IsSignature, AreApart, IsWithin, IsInRange, NamesWithin, IsFilled, HasWellPieced, HasSizeInRange, IsInstruction, HasFunction, IsValid}
use Rattle.p9_first.specs.Form.{is_letter, is_letter_or_digit, is_name, is_variable_name, same_name, is_among, keywords, functions, IsFile}
use Rattle.p9_form.specs.declared.file.Statement.{Statement}
use Rattle.p9_form.specs.declared.file.First.{First}
use Rattle.p9_form.specs.declared.file.First.TheVariants as first
use Rattle.p9_form.specs.declared.file.Declaration.{Declaration}
use Rattle.p9_form.specs.declared.file.File.{File}
use Rattle.p9_form.specs.Items.{items_of}
use Rattle.p9_form.specs.Sharing.{IsSmall, declarations, statements, declared_data}
use Rattle.p9_form.proofs.Formed.{FitDeclarations, names_behind, FitsFile, file_fits}
use Rattle.p9_share.specs.Symbols.{global, is_exits, is_write, used_if, module_of, symbols_of, system_symbols, signature_of, body_of, variable_symbol, main_symbol, main_symbols, used_names}

-- Lists

pub all_none : {X : Type 0} (P : X → Type 0) → All P []
all_none P k d l = absurd (omega (arith, l))

pub all_cons : {X : Type 0} (P : X → Type 0) (x : X) (xs : List X) → P x → All P xs → All P (x ∷ xs)
all_cons P x xs h g zero d l = h
all_cons P x xs h g (suc k) d l = g k d (omega (arith, l))

pub pairs_none : {X : Type 0} (R : X → X → Type 0) → AllPairs R []
pairs_none R i j d l m = absurd (omega (arith, m))

pub pairs_one : {X : Type 0} (R : X → X → Type 0) (x : X) → AllPairs R (x ∷ [])
pairs_one R x = AllPairs-cons R x [] (all_none (R x)) (pairs_none R)

pub all_tail : {X : Type 0} (P : X → Type 0) (x : X) (xs : List X) → All P (x ∷ xs) → All P xs
all_tail P x xs h k d l = h (suc k) d (omega (arith, l))

pub all_head : {X : Type 0} (P : X → Type 0) (x : X) (xs : List X) → All P (x ∷ xs) → P x
all_head P x xs h = h 0 x (omega arith)

pub pairs_append : {X : Type 0} (R : X → X → Type 0) (xs ys : List X) → AllPairs R xs → AllPairs R ys → All (λ x. All (R x) ys) xs → AllPairs R (xs ++ ys)
pairs_append R [] ys p q h = q
pairs_append R (x ∷ xs) ys p q h =
    AllPairs-cons R x (xs ++ ys)
    (All-append (R x) xs ys (λ k d l. p 0 (suc k) d (omega arith) (omega (arith, l))) (all_head (λ y. All (R y) ys) x xs h))
    (pairs_append R xs ys (λ i j d l m. p (suc i) (suc j) d (omega (arith, l)) (omega (arith, m))) q (all_tail (λ y. All (R y) ys) x xs h))

-- Names

abbrev is_graphic : ℕ → Bool
is_graphic b = nat_le 33 b && nat_le b 126

graphic : (b : ℕ) → is_graphic b ≡ true → IsGraphic b
graphic b h = grind (arith, nat_tests)

and_left : (a b : Bool) → (a && b) ≡ true → a ≡ true
and_left true b h = refl
and_left false b h = cc

and_right : (a b : Bool) → (a && b) ≡ true → b ≡ true
and_right true b h = h
and_right false b h = cc

not_true : (a : Bool) → not a ≡ true → a ≡ false
not_true true h = cc
not_true false h = refl

true_not_false : true ≡ false → ⊥
true_not_false h = cc

all_graphic : (bs : List ℕ) → list_all is_graphic bs ≡ true → All IsGraphic bs
all_graphic [] h = all_none IsGraphic
all_graphic (b ∷ bs) h =
    all_cons IsGraphic b bs (graphic b (and_left (is_graphic b) (list_all is_graphic bs) h))
    (all_graphic bs (and_right (is_graphic b) (list_all is_graphic bs) h))

letter_graphic : (b : ℕ) → is_letter b ≡ true → IsGraphic b
letter_graphic b h = grind (arith, nat_tests)

digit_graphic : (b : ℕ) → is_letter_or_digit b ≡ true → IsGraphic b
digit_graphic b h = grind (arith, nat_tests)

all_digits : (bs : List ℕ) → list_all is_letter_or_digit bs ≡ true → All IsGraphic bs
all_digits [] h = all_none IsGraphic
all_digits (b ∷ bs) h =
    all_cons IsGraphic b bs (digit_graphic b (and_left (is_letter_or_digit b) (list_all is_letter_or_digit bs) h))
    (all_digits bs (and_right (is_letter_or_digit b) (list_all is_letter_or_digit bs) h))

short_tail : (n : ℕ) → nat_le n 254 ≡ true → n ≤ 254
short_tail n h = grind (arith, nat_tests)

name_fits : (x : List ℕ) → is_name x ≡ true → IsName x
name_fits [] h = cc
name_fits (b ∷ bs) h =
    let r = and_right (is_letter b) (list_all is_letter_or_digit bs && nat_le (length bs) 254) h in
    let s = short_tail (length bs) (and_right (list_all is_letter_or_digit bs) (nat_le (length bs) 254) r) in (
      omega arith,
      omega (arith, s),
      all_cons IsGraphic b bs (letter_graphic b (and_left (is_letter b) (list_all is_letter_or_digit bs && nat_le (length bs) 254) h))
          (all_digits bs (and_left (list_all is_letter_or_digit bs) (nat_le (length bs) 254) r)),
    )

-- a variable's name is a name, and none of the functions'
pub record IsVariableName (x : List ℕ) : Type 0 where
  pub name : IsName x
  pub other : is_among functions x ≡ false

variable_name : (x : List ℕ) → is_variable_name x ≡ true → IsVariableName x
variable_name x h =
    let r = and_right (is_name x) (not (is_among keywords x) && not (is_among functions x)) h in
    record {
      name = name_fits x (and_left (is_name x) (not (is_among keywords x) && not (is_among functions x)) h);
      other = not_true (is_among functions x) (and_right (not (is_among keywords x)) (not (is_among functions x)) r);
    }

-- Symbols

abbrev IsSigByte : ℕ → Type 0
IsSigByte b = (33 ≤ b) × (b ≤ 126) × (b ≢ 34) × (b ≢ 92)

abbrev is_sig_byte : ℕ → Bool
is_sig_byte b = nat_le 33 b && (nat_le b 126 && (not (b == 34) && not (b == 92)))

sig_byte : (b : ℕ) → is_sig_byte b ≡ true → IsSigByte b
sig_byte b h = grind (arith, nat_tests)

all_sig : (bs : List ℕ) → list_all is_sig_byte bs ≡ true → All IsSigByte bs
all_sig [] h = all_none IsSigByte
all_sig (b ∷ bs) h =
    all_cons IsSigByte b bs (sig_byte b (and_left (is_sig_byte b) (list_all is_sig_byte bs) h))
    (all_sig bs (and_right (is_sig_byte b) (list_all is_sig_byte bs) h))

-- the rules that each symbol keeps by itself
pub record IsGood (s : Symbol) : Type 0 where
  pub name : IsName s.name
  pub sig : IsSignature s.sig
  pub is_global : s.local ≡ false
  pub numbers : (n : ℕ) → NamesWithin n s.body
  pub pieces : HasWellPieced s.body
  pub size : HasSizeInRange s.body
  pub function : HasFunction s.body

plain_names : (n : ℕ) (body : Body) → operands_of body ≡ [] → pieces_of body ≡ [] → NamesWithin n body
plain_names n body e f = (
  subst (λ os. All (λ o. IsWithin n (named_by_operand o)) os) (sym e) (all_none (λ o. IsWithin n (named_by_operand o))),
  subst (λ ps. All (λ p. IsWithin n (named_by_piece p)) ps) (sym f) (all_none (λ p. IsWithin n (named_by_piece p))),
)

used_good : (name sig : List ℕ) → IsName name → IsSignature sig → IsGood (global name sig Used)
used_good name sig h g = record {
  name = h;
  sig = g;
  is_global = refl;
  numbers = λ n. plain_names n Used refl refl;
  pieces = tt;
  size = tt;
  function = tt;
}

exits_good : IsGood (global (codes "exits") (codes "(*c;)v") Used)
exits_good = used_good (codes "exits") (codes "(*c;)v") (omega arith, omega arith, all_graphic (codes "exits") refl) (omega arith, all_sig (codes "(*c;)v") refl)

write_good : IsGood (global (codes "write") (codes "(i;*v;l;)l") Used)
write_good = used_good (codes "write") (codes "(i;*v;l;)l") (omega arith, omega arith, all_graphic (codes "write") refl) (omega arith, all_sig (codes "(i;*v;l;)l") refl)

main_good : IsGood main_symbol
main_good = record {
  name = (omega arith, omega arith, all_graphic (codes "main") refl);
  sig = (omega arith, all_sig (codes "()v") refl);
  is_global = refl;
  numbers = λ n. plain_names n main_symbol.body refl refl;
  pieces = tt;
  size = tt;
  function = record {
    frame = (refl, omega arith);
    ending = inl refl;
    instructions =
        all_cons (IsInstruction 0 1) (record { op = Ret; operands = [] }) []
        (record {
          form = refl;
          operands = all_none (IsInRange 0 1);
          destination = λ e. absurd (true_not_false (sym e));
        })
        (all_none (IsInstruction 0 1));
  };
}

signature_good : (l : Bool) → IsSignature (signature_of l)
signature_good true = (omega arith, all_sig (codes "l") refl)
signature_good false = (omega arith, all_sig (codes "i") refl)

word_piece : (value : ℕ) → HasWellPieced (Data (Raw (word_bytes value) ∷ []))
word_piece value = record {
  some = omega arith;
  filled = all_cons IsFilled (Raw (word_bytes value)) [] (omega arith) (all_none IsFilled);
  parted = tt;
  aligned = tt;
}

variable_good_by : (name : List ℕ) (l used : Bool) (f : First) → IsName name → IsGood (global name (signature_of l) (body_of f used))
variable_good_by name l true first.Extern h = used_good name (signature_of l) h (signature_good l)
variable_good_by name l false first.Extern h = record {
  name = h;
  sig = signature_good l;
  is_global = refl;
  numbers = λ n. plain_names n Declared refl refl;
  pieces = tt;
  size = tt;
  function = tt;
}
variable_good_by name l used first.Zero h = record {
  name = h;
  sig = signature_good l;
  is_global = refl;
  numbers = λ n. plain_names n (Common 4) refl refl;
  pieces = tt;
  size = (omega arith, omega arith);
  function = tt;
}
variable_good_by name l used (first.Number value) h = record {
  name = h;
  sig = signature_good l;
  is_global = refl;
  numbers = λ n. (
    all_none (λ o. IsWithin n (named_by_operand o)),
    all_cons (λ p. IsWithin n (named_by_piece p)) (Raw (word_bytes value)) [] tt (all_none (λ p. IsWithin n (named_by_piece p))),
  );
  pieces = word_piece value;
  size = (omega arith, omega arith);
  function = tt;
}

variable_good : (names : List (List ℕ)) (d : Declaration) → IsName d.name → IsGood (variable_symbol names d)
variable_good names d h = variable_good_by d.name d.is_long (is_among names d.name) d.first h

-- Declarations

abbrev pub AreVariableNames : List Declaration → Type 0
AreVariableNames ds = All (λ d. IsVariableName d.name) ds

new_name : (names : List (List ℕ)) (x : List ℕ) → IsTrue (is_variable_name x && not (is_among names x)) → IsVariableName x × (is_among names x ≡ false)
new_name names x h = (variable_name x (and_left (is_variable_name x) (not (is_among names x)) h), not_true (is_among names x) (and_right (is_variable_name x) (not (is_among names x)) h))

pub variable_names : (names : List (List ℕ)) (ds : List Declaration) → FitDeclarations names ds → AreVariableNames ds
variable_names names [] h = all_none (λ d. IsVariableName d.name)
variable_names names (d ∷ ds) h =
    all_cons (λ e. IsVariableName e.name) d ds (new_name names d.name h.0).0 (variable_names (d.name ∷ names) ds h.2)

abbrev pub AreNew : List (List ℕ) → List Declaration → Type 0
AreNew names ds = All (λ d. is_among names d.name ≡ false) ds

or_left : (a b : Bool) → (a || b) ≡ false → a ≡ false
or_left true b h = h
or_left false b h = refl

or_right : (a b : Bool) → (a || b) ≡ false → b ≡ false
or_right true b h = cc
or_right false b h = h

-- names that aren't among more aren't among fewer
fewer : (x : List ℕ) (names : List (List ℕ)) (ds : List Declaration) → AreNew (x ∷ names) ds → AreNew names ds
fewer x names ds h k d l = or_right (same_name (slice_index_or ds k d).name x) (is_among names (slice_index_or ds k d).name) (h k d l)

pub all_new : (names : List (List ℕ)) (ds : List Declaration) → FitDeclarations names ds → AreNew names ds
all_new names [] h = all_none (λ d. is_among names d.name ≡ false)
all_new names (d ∷ ds) h =
    all_cons (λ e. is_among names e.name ≡ false) d ds (new_name names d.name h.0).1
    (fewer d.name names ds (all_new (d.name ∷ names) ds h.2))

eq_self : (a : ℕ) → (a == a) ≡ true
eq_self a = grind (arith, nat_tests)

pub same_self : (x : List ℕ) → same_name x x ≡ true
same_self [] = refl
same_self (a ∷ xs) = ap (λ b. b && same_name xs xs) (eq_self a) ∙ same_self xs

differ : (x y : List ℕ) → same_name y x ≡ false → x ≢ y
differ x y h e = true_not_false (sym (same_self y) ∙ (ap (same_name y) (sym e) ∙ h))

-- the first's name isn't one of the others'
abbrev pub IsUnlike : Declaration → Declaration → Type 0
IsUnlike d e = d.name ≢ e.name

unlike_all : (names : List (List ℕ)) (d : Declaration) (ds : List Declaration) → AreNew (d.name ∷ names) ds → All (IsUnlike d) ds
unlike_all names d ds h k e l = differ d.name (slice_index_or ds k e).name (or_left (same_name (slice_index_or ds k e).name d.name) (is_among names (slice_index_or ds k e).name) (h k e l))

pub unlike_pairs : (names : List (List ℕ)) (ds : List Declaration) → FitDeclarations names ds → AllPairs IsUnlike ds
unlike_pairs names [] h = pairs_none IsUnlike
unlike_pairs names (d ∷ ds) h =
    AllPairs-cons IsUnlike d ds (unlike_all names d ds (all_new (d.name ∷ names) ds h.2)) (unlike_pairs (d.name ∷ names) ds h.2)

-- those behind are unlike those before
pub unlike_behind : (names : List (List ℕ)) (ds es : List Declaration) → AreNew (names_behind names ds) es → All (λ d. All (IsUnlike d) es) ds × AreNew names es
unlike_behind names [] es h = (all_none (λ d. All (IsUnlike d) es), h)
unlike_behind names (d ∷ ds) es h =
    let r = unlike_behind (d.name ∷ names) ds es h in
    (all_cons (λ d. All (IsUnlike d) es) d ds (unlike_all names d es r.1) r.0, fewer d.name names es r.1)

-- The symbols of a file

abbrev Apart : Symbol → Symbol → Type 0
Apart a b = AreApart a b

abbrev variables : List (List ℕ) → List Declaration → List Symbol
variables names ds = map (variable_symbol names) ds

apart_names : (a b : Symbol) → a.name ≢ b.name → AreApart a b
apart_names a b h e = h

all_map : {X Y : Type 0} (f : X → Y) (P : X → Type 0) (Q : Y → Type 0) (xs : List X) → ((x : X) → P x → Q (f x)) → All P xs → All Q (map f xs)
all_map f P Q [] g h = all_none Q
all_map f P Q (x ∷ xs) g h = all_cons Q (f x) (map f xs) (g x (all_head P x xs h)) (all_map f P Q xs g (all_tail P x xs h))

pairs_map : (names : List (List ℕ)) (ds : List Declaration) → AllPairs IsUnlike ds → AllPairs AreApart (variables names ds)
pairs_map names [] h = pairs_none AreApart
pairs_map names (d ∷ ds) h =
    AllPairs-cons AreApart (variable_symbol names d) (variables names ds)
    (all_map (variable_symbol names) (IsUnlike d) (AreApart (variable_symbol names d)) ds (λ e u. apart_names (variable_symbol names d) (variable_symbol names e) u) (λ k e l. h 0 (suc k) e (omega arith) (omega (arith, l))))
    (pairs_map names ds (λ i j e l m. h (suc i) (suc j) e (omega (arith, l)) (omega (arith, m))))

-- no variable is named as a function
not_function : (f x : List ℕ) → is_among functions f ≡ true → IsVariableName x → f ≢ x
not_function f x t h e = true_not_false (sym t ∙ (ap (is_among functions) e ∙ h.other))

from_function : (s : Symbol) (names : List (List ℕ)) (ds : List Declaration) → is_among functions s.name ≡ true → AreVariableNames ds → All (AreApart s) (variables names ds)
from_function s names ds t h =
    all_map (variable_symbol names) (λ d. IsVariableName d.name) (AreApart s) ds
    (λ d v. apart_names s (variable_symbol names d) (not_function s.name d.name t v)) h

to_function : (s : Symbol) (names : List (List ℕ)) (ds : List Declaration) → is_among functions s.name ≡ true → AreVariableNames ds → All (λ v. AreApart v s) (variables names ds)
to_function s names ds t h =
    all_map (variable_symbol names) (λ d. IsVariableName d.name) (λ v. AreApart v s) ds
    (λ d v. apart_names (variable_symbol names d) s (λ e. not_function s.name d.name t v (sym e))) h

-- Systems' symbols and `main`

-- a symbol of a system call
abbrev IsSystem : Symbol → Type 0
IsSystem s = IsGood s × (is_among (codes "write" ∷ codes "exits" ∷ []) s.name ≡ true)

used_system : (b : Bool) (s : Symbol) → IsSystem s → All IsSystem (used_if b s)
used_system true s h = all_cons IsSystem s [] h (all_none IsSystem)
used_system false s h = all_none IsSystem

abbrev exits_symbol : Symbol
exits_symbol = global (codes "exits") (codes "(*c;)v") Used

abbrev write_symbol : Symbol
write_symbol = global (codes "write") (codes "(i;*v;l;)l") Used

system_all : (ss : List Statement) → All IsSystem (system_symbols ss)
system_all ss =
    All-append IsSystem (used_if (list_any is_exits ss) exits_symbol) (used_if (list_any is_write ss) write_symbol)
    (used_system (list_any is_exits ss) exits_symbol (exits_good, refl))
    (used_system (list_any is_write ss) write_symbol (write_good, refl))

exits_not_write : codes "exits" ≢ codes "write"
exits_not_write e = true_not_false (sym (same_self (codes "write")) ∙ ap (λ x. same_name x (codes "write")) (sym e))

system_pairs_by : (a b : Bool) → AllPairs AreApart (used_if a exits_symbol ++ used_if b write_symbol)
system_pairs_by true true =
    AllPairs-cons AreApart exits_symbol (write_symbol ∷ [])
    (all_cons (AreApart exits_symbol) write_symbol [] (apart_names exits_symbol write_symbol exits_not_write) (all_none (AreApart exits_symbol)))
    (pairs_one AreApart write_symbol)
system_pairs_by true false = pairs_one AreApart exits_symbol
system_pairs_by false true = pairs_one AreApart write_symbol
system_pairs_by false false = pairs_none AreApart

main_pairs : (m : Option (List Statement)) → AllPairs AreApart (main_symbols m)
main_pairs None = pairs_none AreApart
main_pairs (Some ss) = pairs_one AreApart main_symbol

main_all : (P : Symbol → Type 0) → P main_symbol → (m : Option (List Statement)) → All P (main_symbols m)
main_all P h None = all_none P
main_all P h (Some ss) = all_cons P main_symbol [] h (all_none P)

-- a system call's symbol is apart from `main` and from each variable
system_function : (s : Symbol) → IsSystem s → is_among functions s.name ≡ true
system_function s h = wider s.name h.1
  where
    wider : (x : List ℕ) → is_among (codes "write" ∷ codes "exits" ∷ []) x ≡ true → is_among functions x ≡ true
    wider x g = by (same_name x (codes "write")) (same_name x (codes "exits")) g
      where
        by : (a b : Bool) → (a || (b || false)) ≡ true → (same_name x (codes "main") || (a || (b || (same_name x (codes "read") || false)))) ≡ true
        by true b g = or_true (same_name x (codes "main"))
          where
            or_true : (c : Bool) → (c || true) ≡ true
            or_true true = refl
            or_true false = refl
        by false true g = or_true (same_name x (codes "main"))
          where
            or_true : (c : Bool) → (c || true) ≡ true
            or_true true = refl
            or_true false = refl
        by false false g = cc

system_not_main : (s : Symbol) → IsSystem s → s.name ≢ codes "main"
system_not_main s h e = true_not_false (sym h.1 ∙ ap (is_among (codes "write" ∷ codes "exits" ∷ [])) e)

-- The parts of a file's symbols

pub record Parts (file : File) : Type 0 where
  pub before : AreVariableNames file.before
  pub after : AreVariableNames file.after
  pub pairs_before : AllPairs IsUnlike file.before
  pub pairs_after : AllPairs IsUnlike file.after
  pub across : All (λ d. All (IsUnlike d) file.after) file.before

pub parts_of : (file : File) → FitsFile file → Parts file
parts_of file h = record {
  before = variable_names [] file.before h.before;
  after = variable_names (names_behind [] file.before) file.after h.after;
  pairs_before = unlike_pairs [] file.before h.before;
  pairs_after = unlike_pairs (names_behind [] file.before) file.after h.after;
  across = (unlike_behind [] file.before file.after (all_new (names_behind [] file.before) file.after h.after)).0;
}

abbrev rest_of : File → List Symbol
rest_of file = variables (used_names file) file.before ++ (main_symbols file.main ++ variables (used_names file) file.after)

variables_good : (names : List (List ℕ)) (ds : List Declaration) → AreVariableNames ds → All IsGood (variables names ds)
variables_good names ds h = all_map (variable_symbol names) (λ d. IsVariableName d.name) IsGood ds (λ d v. variable_good names d v.name) h

good_symbols : (file : File) → Parts file → All IsGood (symbols_of file)
good_symbols file p =
    All-append IsGood (system_symbols (statements file.main)) (rest_of file)
    (λ k d l. (system_all (statements file.main) k d l).0)
    (All-append IsGood (variables (used_names file) file.before) (main_symbols file.main ++ variables (used_names file) file.after)
    (variables_good (used_names file) file.before p.before)
    (All-append IsGood (main_symbols file.main) (variables (used_names file) file.after)
    (main_all IsGood main_good file.main)
    (variables_good (used_names file) file.after p.after)))

-- each variable before is apart from `main` and from each behind
before_apart : (file : File) → Parts file → All (λ s. All (AreApart s) (main_symbols file.main ++ variables (used_names file) file.after)) (variables (used_names file) file.before)
before_apart file p =
    all_map (variable_symbol (used_names file)) (λ d. IsVariableName d.name × All (IsUnlike d) file.after)
    (λ s. All (AreApart s) (main_symbols file.main ++ variables (used_names file) file.after)) file.before
    (λ d h.
    All-append (AreApart (variable_symbol (used_names file) d)) (main_symbols file.main) (variables (used_names file) file.after)
    (main_all (AreApart (variable_symbol (used_names file) d)) (apart_names (variable_symbol (used_names file) d) main_symbol (λ e. not_function (codes "main") d.name refl h.0 (sym e))) file.main)
    (all_map (variable_symbol (used_names file)) (IsUnlike d) (AreApart (variable_symbol (used_names file) d)) file.after
    (λ e u. apart_names (variable_symbol (used_names file) d) (variable_symbol (used_names file) e) u) h.1))
    (λ k d l. (p.before k d l, p.across k d l))

system_apart : (file : File) → Parts file → All (λ s. All (AreApart s) (rest_of file)) (system_symbols (statements file.main))
system_apart file p k d l =
    let s = slice_index_or (system_symbols (statements file.main)) k d in
    let h = system_all (statements file.main) k d l in
    All-append (AreApart s) (variables (used_names file) file.before) (main_symbols file.main ++ variables (used_names file) file.after)
    (from_function s (used_names file) file.before (system_function s h) p.before)
    (All-append (AreApart s) (main_symbols file.main) (variables (used_names file) file.after)
    (main_all (AreApart s) (apart_names s main_symbol (system_not_main s h)) file.main)
    (from_function s (used_names file) file.after (system_function s h) p.after))

distinct_symbols : (file : File) → Parts file → AllPairs AreApart (symbols_of file)
distinct_symbols file p =
    pairs_append AreApart (system_symbols (statements file.main)) (rest_of file)
    (system_pairs_by (list_any is_exits (statements file.main)) (list_any is_write (statements file.main)))
    (pairs_append AreApart (variables (used_names file) file.before) (main_symbols file.main ++ variables (used_names file) file.after)
    (pairs_map (used_names file) file.before p.pairs_before)
    (pairs_append AreApart (main_symbols file.main) (variables (used_names file) file.after)
    (main_pairs file.main)
    (pairs_map (used_names file) file.after p.pairs_after)
    (main_all (λ s. All (AreApart s) (variables (used_names file) file.after)) (from_function main_symbol (used_names file) file.after refl p.after) file.main))
    (before_apart file p))
    (system_apart file p)

module_valid : (file : File) → FitsFile file → IsValid (module_of file)
module_valid file h = record {
  names = λ k d l. (g k d l).name;
  distinct = distinct_symbols file (parts_of file h);
  locals = λ k d l e. absurd (true_not_false (sym e ∙ (g k d l).is_global));
  signatures = λ k d l. (g k d l).sig;
  numbers = λ k d l. (g k d l).numbers (length (symbols_of file));
  pieces = λ k d l. (g k d l).pieces;
  sizes = λ k d l. (g k d l).size;
  functions = λ k d l. (g k d l).function;
}
  where
    g : All IsGood (symbols_of file)
    g = good_symbols file (parts_of file h)

pub all_valid : (files : List File) (modules : List AModule) → modules ≡ map module_of files → All (λ f. IsFile (items_of f)) files → All IsValid modules
all_valid files modules e h =
    subst (λ ms. All IsValid ms) (sym e)
    (all_map module_of (λ f. IsFile (items_of f)) IsValid files (λ f i. module_valid f (file_fits f i)) h)

-- Counts

used_size : (b : Bool) (s : Symbol) → length (used_if b s) ≤ 1
used_size true s = omega arith
used_size false s = omega arith

main_count : (m : Option (List Statement)) → length (main_symbols m) ≤ 1
main_count None = omega arith
main_count (Some ss) = omega arith

declared_count : (ds : List Declaration) → 4 * length ds ≡ declared_data ds
declared_count [] = refl
declared_count (d ∷ ds) = let r = declared_count ds in omega (arith, r)

length_map : {X Y : Type 0} (f : X → Y) (xs : List X) → length (map f xs) ≡ length xs
length_map f [] = refl
length_map f (x ∷ xs) = ap suc (length_map f xs)

module_small : (file : File) → IsSmall file → length (symbols_of file) < 2 ^ 32
module_small file h =
    let e = used_size (list_any is_exits (statements file.main)) exits_symbol in
    let w = used_size (list_any is_write (statements file.main)) write_symbol in
    let m = main_count file.main in
    let s = length-append (used_if (list_any is_exits (statements file.main)) exits_symbol) (used_if (list_any is_write (statements file.main)) write_symbol) in
    let t = length-append (system_symbols (statements file.main)) (rest_of file) in
    let u = length-append (variables (used_names file) file.before) (main_symbols file.main ++ variables (used_names file) file.after) in
    let v = length-append (main_symbols file.main) (variables (used_names file) file.after) in
    let x = length_map (variable_symbol (used_names file)) file.before in
    let y = length_map (variable_symbol (used_names file)) file.after in
    let c = declared_count (declarations file) in
    let l = length-append file.before file.after in
    let d = h.data_size in
    omega (arith, e, w, m, s, t, u, v, x, y, c, l, d)

pub all_small : (files : List File) (modules : List AModule) → modules ≡ map module_of files → All IsSmall files → All (λ m. length m.symbols < 2 ^ 32) modules
all_small files modules e h =
    subst (λ ms. All (λ m. length m.symbols < 2 ^ 32) ms) (sym e)
    (all_map module_of IsSmall (λ m. length m.symbols < 2 ^ 32) files (λ f i. module_small f i) h)
