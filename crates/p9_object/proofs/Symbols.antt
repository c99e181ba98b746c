-- Symbols: what is read keeps the rules of a symbol, each that keeps them is read, and from inside one
-- some fields lead to its end.
use Rattle.std.proofs.Common.{◌≡◌, ◌≢◌, ◌⊎◌, ℕ, zero, suc, ◌+◌, ◌-◌, ◌*◌, ◌%◌, ◌^◌, ◌<◌, ◌≤◌, Bool, true, false, ◌&&◌, ◌||◌, not, List, [], ◌∷◌, ◌++◌, length, Option, Some, None, flat_map, All, refl, sym, ap, subst, ◌∙◌, append_assoc, arith, inl, inr}
use Rattle.std.specs.Prelude.{Decides, bytes_eq, nat_lt, nat_le, if◌then◌else◌, ◌==◌, IfSome}
use Rattle.std.specs.List.{list_any, list_all}
use Rattle.std.proofs.lemmas.Bool.{cond_both, eqb-true, eq-eqb, ne_eqb, ltb-true, ltb-false, lt-ltb, le-ltb, leb-true, le-leb, and_parts, and_from, true≢false, cases_Bool}
use Rattle.std.proofs.lemmas.Grind.{flat_map-append}
use Rattle.std.proofs.lemmas.List.{append-nil, length-append}
use Rattle.std.proofs.lemmas.List.Elements.{All-nil, All-cons, All-append, All-head, All-tail}
use Rattle.std.proofs.lemmas.List.Folds.{list_any_none}
use Rattle.p9_abs.specs.declared.instructions.Op.TheVariants.{Ret, Jmp}
use Rattle.p9_abs.specs.declared.instructions.Operand.{Operand}
use Rattle.p9_abs.specs.declared.instructions.Abs.{Abs}
use Rattle.p9_abs.specs.declared.instructions.TextDef.{TextDef}
use Rattle.p9_abs.specs.declared.modules.DataPiece.{DataPiece}
use Rattle.p9_abs.specs.declared.modules.DataPiece.TheVariants.{Raw, Address}
use Rattle.p9_abs.specs.declared.modules.Body.{Body}
use Rattle.p9_abs.specs.declared.modules.Body.TheVariants.{Declared, Used, Text, Data, Common}
use Rattle.p9_abs.specs.declared.modules.Symbol.{Symbol}
use Rattle.p9_abs.specs.Modules.{named_by_operand, named_by_piece, operands_of, pieces_of, pieces_size, piece_size, is_definition}
use Rattle.p9_abs.specs.Validity.{IsGraphic, IsName, IsSignature, IsBoundWell, IsWithin, NamesWithin, IsFilled, NoRawNeighbours, AddressesAligned, IsWellPieced, HasWellPieced, HasSizeInRange, IsFrame, EndsWell, IsInRange, IsInstruction, IsFunction, HasFunction}
use Rattle.p9_object.specs.Fields.{Field, Byte, Half, Word, Chars, instruction_fields, piece_fields, symbol_fields, signature_fields, body_fields, binding_number, kind_number}
use Rattle.p9_object.specs.Laws.{OperandFits, PieceFits, CodeFits, IsWord, IsByte}
use Rattle.p9_object.specs.Machine.{Turn, Bad, Stay, Whole, stay_if, whole_if, InstructionPlace, AtOperation, InOperand, read_instruction, instruction_step, PiecePlace, AtPiece, read_piece, size_limit, ends_raw, piece_step, pieces_fit, Kind, DeclaredKind, UsedKind, TextKind, DataKind, CommonKind, number_of_kind, all_kinds, kind_among, defines, Head, SymbolPlace, AtBinding, AtKind, AtNameLength, AtName, AtSignatureLength, AtSignature, AtFrame, AtTotal, InCode, AtPieces, InPieces, AtSize, name_fields, head_fields, read_symbol, is_graphic, is_of_signature, is_named, same_binding, symbol_with, behind_head, with_signature, behind_instruction, behind_piece, kind_step, symbol_step}
use Rattle.p9_object.proofs.Operands.{nothing, stays, wholes, stay_on, whole_on, runs, runs_none, runs_append, FieldFits}
use Rattle.p9_object.proofs.Instructions.{all_push, flat_push, EndsFunction, InstructionWell, InstructionOk, IsWhole, instruction_sound, instruction_read, InstructionLeads, instruction_leads}
use Rattle.p9_object.proofs.Pieces.{size_cons, least, size_push, is_raw, ends_push, HasRoom, PieceWell, IsNext, PieceOk, piece_sound, CanCome, piece_read, AreGood, good_pieces, can_come, PieceLeads, piece_leads, parted_push, aligned_push}
use Rattle.p9_object.proofs.Fresh.{IsNew, new_name}

-- What a symbol keeps, whatever the others are, in a module of so many

pub record IsSymbol (symbols : ℕ) (s : Symbol) : Type 0 where
  pub name : IsName s.name
  pub bound : IsBoundWell s
  pub signature : IsSignature s.sig
  pub numbers : NamesWithin symbols s.body
  pub pieces : HasWellPieced s.body
  pub size : HasSizeInRange s.body
  pub function : HasFunction s.body
  pub operands_fit : All OperandFits (operands_of s.body)
  pub pieces_fit : All PieceFits (pieces_of s.body)
  pub code_fits : CodeFits s.body

abbrev pub IsUnseen : List Symbol → Bool → List ℕ → Type 0
IsUnseen seen local name = list_any (is_named local name) seen ≡ false

-- Names and signatures

graphic : (b : ℕ) → is_graphic b ≡ true → (33 ≤ b) × (b ≤ 126)
graphic b h = let t = and_parts (nat_le 33 b) (nat_le b 126) h in (leb-true 33 b t.0, leb-true b 126 t.1)

graphic_back : (b : ℕ) → 33 ≤ b → b ≤ 126 → is_graphic b ≡ true
graphic_back b h k = and_from (nat_le 33 b) (nat_le b 126) (le-leb 33 b h) (le-leb b 126 k)

all_graphic : (name : List ℕ) → list_all is_graphic name ≡ true → All IsGraphic name
all_graphic [] h = All-nil IsGraphic
all_graphic (b ∷ bs) h =
    let t = and_parts (is_graphic b) (list_all is_graphic bs) h in
    All-cons IsGraphic b bs (graphic b t.0) (all_graphic bs t.1)

all_graphic_back : (name : List ℕ) → All IsGraphic name → list_all is_graphic name ≡ true
all_graphic_back [] h = refl
all_graphic_back (b ∷ bs) h =
    let t = All-head IsGraphic b bs h in
    and_from (is_graphic b) (list_all is_graphic bs) (graphic_back b t.0 t.1) (all_graphic_back bs (All-tail IsGraphic b bs h))

abbrev OfSignature : ℕ → Type 0
OfSignature b = (33 ≤ b) × (b ≤ 126) × (b ≢ 34) × (b ≢ 92)

apart : (m n : ℕ) → not (m == n) ≡ true → m ≢ n
apart m n h e = true≢false (sym h ∙ ap (λ (b : Bool). not b) (eq-eqb m n e))

of_signature : (b : ℕ) → is_of_signature b ≡ true → OfSignature b
of_signature b h =
    let t = and_parts (is_graphic b) (not (b == 34) && not (b == 92)) h in
    let u = and_parts (not (b == 34)) (not (b == 92)) t.1 in
    let g = graphic b t.0 in
    (g.0, g.1, apart b 34 u.0, apart b 92 u.1)

of_signature_back : (b : ℕ) → OfSignature b → is_of_signature b ≡ true
of_signature_back b h =
    and_from (is_graphic b) (not (b == 34) && not (b == 92)) (graphic_back b h.0 h.1)
    (and_from (not (b == 34)) (not (b == 92)) (ap (λ (x : Bool). not x) (ne_eqb b 34 h.2)) (ap (λ (x : Bool). not x) (ne_eqb b 92 h.3)))

all_of_signature : (sig : List ℕ) → list_all is_of_signature sig ≡ true → All OfSignature sig
all_of_signature [] h = All-nil OfSignature
all_of_signature (b ∷ bs) h =
    let t = and_parts (is_of_signature b) (list_all is_of_signature bs) h in
    All-cons OfSignature b bs (of_signature b t.0) (all_of_signature bs t.1)

all_of_signature_back : (sig : List ℕ) → All OfSignature sig → list_all is_of_signature sig ≡ true
all_of_signature_back [] h = refl
all_of_signature_back (b ∷ bs) h =
    and_from (is_of_signature b) (list_all is_of_signature bs) (of_signature_back b (All-head OfSignature b bs h)) (all_of_signature_back bs (All-tail OfSignature b bs h))

-- Heads

abbrev pub BoundKind : Bool → Kind → Type 0
BoundKind local k = (not local || defines k) ≡ true

pub record NameWell (seen : List Symbol) (local : Bool) (k : Kind) (name : List ℕ) : Type 0 where
  pub bound : BoundKind local k
  pub spelled : IsName name
  pub unseen : IsUnseen seen local name

pub record HeadWell (seen : List Symbol) (h : Head) (k : Kind) : Type 0 where
  pub kind : h.kind ≡ k
  pub named : NameWell seen h.local h.kind h.name
  pub signature : IsSignature h.sig
  pub local_bare : h.local ≡ true → h.sig ≡ []

pub record CodeWell (symbols frame total : ℕ) (before : List Abs) (p : InstructionPlace) : Type 0 where
  pub framed : IsFrame frame
  pub room : length before < total
  pub few : IsWord total
  pub each : All (IsInstruction frame total) before
  pub named : All (λ a. All (λ o. IsWithin symbols (named_by_operand o)) a.operands) before
  pub fits : All (λ a. All OperandFits a.operands) before
  pub place : InstructionWell symbols frame total (nat_lt (length before + 1) total) p

pub record PiecesWell (symbols total : ℕ) (before : List DataPiece) (p : PiecePlace) : Type 0 where
  pub room : length before < total
  pub filled : All IsFilled before
  pub parted : NoRawNeighbours before
  pub aligned : AddressesAligned 0 before
  pub named : All (λ x. IsWithin symbols (named_by_piece x)) before
  pub fits : All PieceFits before
  pub place : PieceWell symbols before (total - (length before + 1)) p

abbrev pub SymbolWell : ℕ → List Symbol → SymbolPlace → Type 0
SymbolWell symbols seen AtBinding = Unit {0}
SymbolWell symbols seen (AtKind l) = Unit {0}
SymbolWell symbols seen (AtNameLength l k) = BoundKind l k
SymbolWell symbols seen (AtName l k n) = BoundKind l k × (1 ≤ n) × (n ≤ 255)
SymbolWell symbols seen (AtSignatureLength l k name) = NameWell seen l k name
SymbolWell symbols seen (AtSignature l k name n) = NameWell seen l k name × (l ≡ false) × (1 ≤ n) × (n ≤ 65536)
SymbolWell symbols seen (AtFrame h) = HeadWell seen h TextKind
SymbolWell symbols seen (AtTotal h frame) = HeadWell seen h TextKind × IsFrame frame
SymbolWell symbols seen (InCode h frame total before p) = HeadWell seen h TextKind × CodeWell symbols frame total before p
SymbolWell symbols seen (AtPieces h) = HeadWell seen h DataKind
SymbolWell symbols seen (InPieces h total before p) = HeadWell seen h DataKind × PiecesWell symbols total before p
SymbolWell symbols seen (AtSize h) = HeadWell seen h CommonKind

abbrev pub SymbolOk : ℕ → List Symbol → SymbolPlace → Field → Turn SymbolPlace Symbol → Type 0
SymbolOk symbols seen p f Bad = Unit {0}
SymbolOk symbols seen p f (Stay q) = (read_symbol q ≡ read_symbol p ++ f ∷ []) × SymbolWell symbols seen q
SymbolOk symbols seen p f (Whole s) = (symbol_fields s ≡ read_symbol p ++ f ∷ []) × IsSymbol symbols s × IsUnseen seen s.local s.name

-- Behind the signature

bound_false : (l : Bool) (k : Kind) → BoundKind l k → defines k ≡ false → l ≡ false
bound_false true k h d = absurd (true≢false (sym h ∙ d))
bound_false false k h d = refl

-- a symbol with what stands before its body
as_read : (h : Head) (body : Body) → number_of_kind h.kind ≡ kind_number body → symbol_fields (symbol_with h body) ≡ head_fields h ++ body_fields body
as_read h body e = ap (λ (n : ℕ). Byte (binding_number h.local) ∷ Byte n ∷ Half (length h.name) ∷ Chars h.name ∷ signature_fields h.sig ++ body_fields body) (sym e)

undefined_bound : (s : Symbol) → s.local ≡ false → IsBoundWell s
undefined_bound s f e = absurd (true≢false (sym e ∙ f))

head_ok :
    (symbols : ℕ) (seen : List Symbol) (p : SymbolPlace) (f : Field) (l : Bool) (k : Kind) (name sig : List ℕ) → NameWell seen l k name → IsSignature sig
    → (l ≡ true → sig ≡ []) → head_fields (record { local = l; kind = k; name = name; sig = sig }) ≡ read_symbol p ++ f ∷ []
    → SymbolOk symbols seen p f (with_signature l k name sig)
head_ok symbols seen p f l DeclaredKind name sig w s b text =
    let h : Head = record { local = l; kind = DeclaredKind; name = name; sig = sig } in (
      as_read h Declared refl ∙ append-nil (head_fields h) ∙ text,
      record {
        name = w.spelled;
        bound = undefined_bound (symbol_with h Declared) (bound_false l DeclaredKind w.bound refl);
        signature = s;
        numbers = (All-nil (λ o. IsWithin symbols (named_by_operand o)), All-nil (λ x. IsWithin symbols (named_by_piece x)));
        pieces = tt;
        size = tt;
        function = tt;
        operands_fit = All-nil OperandFits;
        pieces_fit = All-nil PieceFits;
        code_fits = tt;
      },
      w.unseen,
    )
head_ok symbols seen p f l UsedKind name sig w s b text =
    let h : Head = record { local = l; kind = UsedKind; name = name; sig = sig } in (
      as_read h Used refl ∙ append-nil (head_fields h) ∙ text,
      record {
        name = w.spelled;
        bound = undefined_bound (symbol_with h Used) (bound_false l UsedKind w.bound refl);
        signature = s;
        numbers = (All-nil (λ o. IsWithin symbols (named_by_operand o)), All-nil (λ x. IsWithin symbols (named_by_piece x)));
        pieces = tt;
        size = tt;
        function = tt;
        operands_fit = All-nil OperandFits;
        pieces_fit = All-nil PieceFits;
        code_fits = tt;
      },
      w.unseen,
    )
head_ok symbols seen p f l TextKind name sig w s b text = (text, record { kind = refl; named = w; signature = s; local_bare = b })
head_ok symbols seen p f l DataKind name sig w s b text = (text, record { kind = refl; named = w; signature = s; local_bare = b })
head_ok symbols seen p f l CommonKind name sig w s b text = (text, record { kind = refl; named = w; signature = s; local_bare = b })

-- Code

ends_code : (code : List Abs) (a : Abs) → EndsFunction a.op → EndsWell (code ++ a ∷ [])
ends_code [] a h = h
ends_code (x ∷ []) a h = h
ends_code (x ∷ y ∷ code) a h = ends_code (y ∷ code) a h

pub all_flat : {X Y : Type 0} (P : Y → Type 0) (f : X → List Y) (xs : List X) → All (λ x. All P (f x)) xs → All P (flat_map f xs)
all_flat P f [] h = All-nil P
all_flat P f (x ∷ xs) h = All-append P (f x) (flat_map f xs) (All-head (λ x. All P (f x)) x xs h) (all_flat P f xs (All-tail (λ x. All P (f x)) x xs h))

pub push_length : {X : Type 0} (xs : List X) (x : X) → length (xs ++ x ∷ []) ≡ length xs + 1
push_length xs x = length-append xs (x ∷ [])

-- a field more behind what stands before
behind : (front p text : List Field) (f : Field) → text ≡ p ++ f ∷ [] → front ++ text ≡ (front ++ p) ++ f ∷ []
behind front p text f e = ap (λ (t : List Field). front ++ t) e ∙ sym (append_assoc front p (f ∷ []))

abbrev code_front : (frame total : ℕ) → List Abs → List Field
code_front frame total before = Word frame ∷ Word total ∷ flat_map instruction_fields before

in_code : (h : Head) (frame total : ℕ) (before : List Abs) (p text : List Field) (f : Field) → text ≡ p ++ f ∷ [] → head_fields h ++ (code_front frame total before ++ text) ≡ (head_fields h ++ (code_front frame total before ++ p)) ++ f ∷ []
in_code h frame total before p text f e = behind (head_fields h) (code_front frame total before ++ p) (code_front frame total before ++ text) f (behind (code_front frame total before) p text f e)

defined_bound : (h : Head) (body : Body) → is_definition body ≡ true → (h.local ≡ true → h.sig ≡ []) → IsBoundWell (symbol_with h body)
defined_bound h body d b e = (d, b e)

code_ok :
    (symbols : ℕ) (seen : List Symbol) (h : Head) (frame total : ℕ) (before : List Abs) (p : InstructionPlace) (f : Field) (t : Turn InstructionPlace Abs)
    → HeadWell seen h TextKind → CodeWell symbols frame total before p → InstructionOk symbols frame total (nat_lt (length before + 1) total) p f t
    → SymbolOk symbols seen (InCode h frame total before p) f (behind_instruction h frame total before t)
code_ok symbols seen h frame total before p f Bad w c k = tt
code_ok symbols seen h frame total before p f (Stay q) w c k =
    (in_code h frame total before (read_instruction p) (read_instruction q) f k.0, (w, record { framed = c.framed; room = c.room; few = c.few; each = c.each; named = c.named; fits = c.fits; place = k.1 }))
code_ok symbols seen h frame total before p f (Whole a) w c k =
    let N : Abs → Type 0 = λ a. All (λ o. IsWithin symbols (named_by_operand o)) a.operands in
    let F : Abs → Type 0 = λ a. All OperandFits a.operands in
    let each = all_push (IsInstruction frame total) before a c.each k.1.instruction in
    let named = all_push N before a c.named k.1.symbols_named in
    let fits = all_push F before a c.fits k.1.fits in
    let text : flat_map instruction_fields (before ++ a ∷ []) ≡ flat_map instruction_fields before ++ instruction_fields a = flat_push instruction_fields before a in
    let read : head_fields h ++ (Word frame ∷ Word total ∷ flat_map instruction_fields (before ++ a ∷ [])) ≡ read_symbol (InCode h frame total before p) ++ f ∷ [] =
    ap (λ (t : List Field). head_fields h ++ (Word frame ∷ Word total ∷ t)) text ∙ in_code h frame total before (read_instruction p) (instruction_fields a) f k.0 in
    cond_both (nat_lt (length before + 1) total) _ _ (SymbolOk symbols seen (InCode h frame total before p) f)
    (λ e. (
      ap (λ (t : List Field). head_fields h ++ (Word frame ∷ Word total ∷ t)) (append-nil (flat_map instruction_fields (before ++ a ∷ []))) ∙ read,
      (w, record { framed = c.framed; room = omega (arith, ltb-true (length before + 1) total e, push_length before a); few = c.few; each = each; named = named; fits = fits; place = tt }),
    ))
    (λ e.
    let long : total ≡ length (before ++ a ∷ []) = omega (arith, ltb-false (length before + 1) total e, push_length before a, c.room) in
    let code : List Abs = before ++ a ∷ [] in (
      as_read h (Text (record { frame = frame; code = code })) (ap (λ (k : Kind). number_of_kind k) w.kind)
          ∙ ap (λ (n : ℕ). head_fields h ++ (Word frame ∷ Word n ∷ flat_map instruction_fields code)) (sym long)
          ∙ read,
      record {
        name = w.named.spelled;
        bound = defined_bound h (Text (record { frame = frame; code = code })) refl w.local_bare;
        signature = w.signature;
        numbers = (all_flat (λ o. IsWithin symbols (named_by_operand o)) (λ (a : Abs). a.operands) code named, All-nil (λ x. IsWithin symbols (named_by_piece x)));
        pieces = tt;
        size = tt;
        function = record { frame = c.framed; ending = ends_code before a (k.1.ends e); instructions = subst (λ (n : ℕ). All (IsInstruction frame n) code) long each };
        operands_fit = all_flat OperandFits (λ (a : Abs). a.operands) code fits;
        pieces_fit = All-nil PieceFits;
        code_fits = omega (arith, long, c.few);
      },
      w.named.unseen,
    ))

-- Data

abbrev pieces_front : (total : ℕ) → List DataPiece → List Field
pieces_front total before = Word total ∷ flat_map piece_fields before

in_pieces : (h : Head) (total : ℕ) (before : List DataPiece) (p text : List Field) (f : Field) → text ≡ p ++ f ∷ [] → head_fields h ++ (pieces_front total before ++ text) ≡ (head_fields h ++ (pieces_front total before ++ p)) ++ f ∷ []
in_pieces h total before p text f e = behind (head_fields h) (pieces_front total before ++ p) (pieces_front total before ++ text) f (behind (pieces_front total before) p text f e)

pieces_ok :
    (symbols : ℕ) (seen : List Symbol) (h : Head) (total : ℕ) (before : List DataPiece) (p : PiecePlace) (f : Field) (t : Turn PiecePlace DataPiece)
    → HeadWell seen h DataKind → PiecesWell symbols total before p → PieceOk symbols before (total - (length before + 1)) p f t
    → SymbolOk symbols seen (InPieces h total before p) f (behind_piece h total before t)
pieces_ok symbols seen h total before p f Bad w c k = tt
pieces_ok symbols seen h total before p f (Stay q) w c k =
    (in_pieces h total before (read_piece p) (read_piece q) f k.0, (w, record { room = c.room; filled = c.filled; parted = c.parted; aligned = c.aligned; named = c.named; fits = c.fits; place = k.1 }))
pieces_ok symbols seen h total before p f (Whole x) w c k =
    let W : DataPiece → Type 0 = λ x. IsWithin symbols (named_by_piece x) in
    let n = k.1 in
    let pieces : List DataPiece = before ++ x ∷ [] in
    let filled = all_push IsFilled before x c.filled n.filled in
    let parted = parted_push before x c.parted n.parted in
    let aligned = aligned_push 0 before x c.aligned (λ r. omega (arith, n.start)) in
    let named = all_push W before x c.named n.symbol in
    let fits = all_push PieceFits before x c.fits n.fits in
    let size = size_push before x in
    let text : flat_map piece_fields pieces ≡ flat_map piece_fields before ++ piece_fields x = flat_push piece_fields before x in
    let read : head_fields h ++ (Word total ∷ flat_map piece_fields pieces) ≡ read_symbol (InPieces h total before p) ++ f ∷ [] =
    ap (λ (t : List Field). head_fields h ++ (Word total ∷ t)) text ∙ in_pieces h total before (read_piece p) (piece_fields x) f k.0 in
    cond_both (nat_lt (length before + 1) total) _ _ (SymbolOk symbols seen (InPieces h total before p) f)
    (λ e.
    let more : length before + 1 < total = ltb-true (length before + 1) total e in
    let place : HasRoom (pieces_size pieces) (total - (length pieces + 1)) = (
      subst (λ (n : ℕ). n % 4 ≡ 0) (sym size) (n.aligned (omega (arith, more))),
      omega (arith, size, n.room, push_length before x, more),
    ) in (
      ap (λ (t : List Field). head_fields h ++ (Word total ∷ t)) (append-nil (flat_map piece_fields pieces)) ∙ read,
      (w, record { room = omega (arith, more, push_length before x); filled = filled; parted = parted; aligned = aligned; named = named; fits = fits; place = place }),
    ))
    (λ e.
    let long : total ≡ length pieces = omega (arith, ltb-false (length before + 1) total e, push_length before x, c.room) in (
      as_read h (Data pieces) (ap (λ (k : Kind). number_of_kind k) w.kind)
          ∙ ap (λ (n : ℕ). head_fields h ++ (Word n ∷ flat_map piece_fields pieces)) (sym long)
          ∙ read,
      record {
        name = w.named.spelled;
        bound = defined_bound h (Data pieces) refl w.local_bare;
        signature = w.signature;
        numbers = (All-nil (λ o. IsWithin symbols (named_by_operand o)), named);
        pieces = record { some = omega (arith, push_length before x); filled = filled; parted = parted; aligned = aligned };
        size = (omega (arith, size, n.some), omega (arith, size, n.room));
        function = tt;
        operands_fit = All-nil OperandFits;
        pieces_fit = fits;
        code_fits = tt;
      },
      w.named.unseen,
    ))

-- The first fields

kind_is : (ks : List Kind) (n : ℕ) (k : Kind) → kind_among ks n ≡ Some k → number_of_kind k ≡ n
kind_is [] n k h = absurd cc
kind_is (x ∷ ks) n k h = by (n == number_of_kind x) (kind_is ks n k) refl h
  where
    by : (b : Bool) → (kind_among ks n ≡ Some k → number_of_kind k ≡ n) → (n == number_of_kind x) ≡ b → (if b then Some x else kind_among ks n) ≡ Some k → number_of_kind k ≡ n
    by true rest e h = let g : x ≡ k = cc in subst (λ (k : Kind). number_of_kind k ≡ n) g (sym (eqb-true n (number_of_kind x) e))
    by false rest e h = rest h

kind_ok : (symbols : ℕ) (seen : List Symbol) (l : Bool) (n : ℕ) (x : Option Kind) → kind_among all_kinds n ≡ x → SymbolOk symbols seen (AtKind l) (Byte n) (kind_step l x)
kind_ok symbols seen l n None h = tt
kind_ok symbols seen l n (Some k) h =
    stays (SymbolOk symbols seen (AtKind l) (Byte n)) (not l || defines k) (AtNameLength l k) tt
    (λ m. (ap (λ (j : ℕ). Byte (binding_number l) ∷ Byte j ∷ []) (kind_is all_kinds n k h), m))

not_true : (b : Bool) → not b ≡ true → b ≡ false
not_true true h = nothing h
not_true false h = refl

pub unless_empty : (sig : List ℕ) → 1 ≤ length sig → signature_fields sig ≡ Word (length sig) ∷ Chars sig ∷ []
unless_empty [] h = absurd (omega arith)
unless_empty (b ∷ bs) h = refl

pub empty_signature : IsSignature []
empty_signature = (omega arith, All-nil OfSignature)

false_not_true : (l : Bool) (sig : List ℕ) → l ≡ false → l ≡ true → sig ≡ []
false_not_true l sig f t = absurd (true≢false (sym t ∙ f))

pub symbol_sound : (symbols : ℕ) (seen : List Symbol) (p : SymbolPlace) (f : Field) → FieldFits f → SymbolWell symbols seen p → SymbolOk symbols seen p f (symbol_step symbols seen p f)
symbol_sound symbols seen AtBinding (Byte n) k w =
    let Q : Turn SymbolPlace Symbol → Type 0 = SymbolOk symbols seen AtBinding (Byte n) in
    cond_both (n == 0) _ _ Q (λ e. (ap (λ (k : ℕ). Byte k ∷ []) (sym (eqb-true n 0 e)), tt))
    (λ e. stays Q (n == 1) (AtKind true) tt (λ m. (ap (λ (k : ℕ). Byte k ∷ []) (sym (eqb-true n 1 m)), tt)))
symbol_sound symbols seen (AtKind l) (Byte n) k w = kind_ok symbols seen l n (kind_among all_kinds n) refl
symbol_sound symbols seen (AtNameLength l kind) (Half n) k w =
    stays (SymbolOk symbols seen (AtNameLength l kind) (Half n)) (nat_lt 0 n && nat_le n 255) (AtName l kind n) tt
    (λ m. let t = and_parts (nat_lt 0 n) (nat_le n 255) m in (refl, (w, omega (arith, ltb-true 0 n t.0), leb-true n 255 t.1)))
symbol_sound symbols seen (AtName l kind n) (Chars name) k w =
    stays (SymbolOk symbols seen (AtName l kind n) (Chars name)) ((length name == n) && (list_all is_graphic name && not (list_any (is_named l name) seen))) (AtSignatureLength l kind name) tt
    (λ m.
    let t = and_parts (length name == n) (list_all is_graphic name && not (list_any (is_named l name) seen)) m in
    let u = and_parts (list_all is_graphic name) (not (list_any (is_named l name) seen)) t.1 in
    let e : length name ≡ n = eqb-true (length name) n t.0 in (
      ap (λ (n : ℕ). Byte (binding_number l) ∷ Byte (number_of_kind kind) ∷ Half n ∷ Chars name ∷ []) e,
      record {
        bound = w.0;
        spelled = (omega (arith, e, w.1), omega (arith, e, w.2), all_graphic name u.0);
        unseen = not_true (list_any (is_named l name) seen) u.1;
      },
    ))
symbol_sound symbols seen (AtSignatureLength l kind name) (Word n) k w =
    let Q : Turn SymbolPlace Symbol → Type 0 = SymbolOk symbols seen (AtSignatureLength l kind name) (Word n) in
    cond_both (n == 0) _ _ Q
    (λ e. head_ok symbols seen (AtSignatureLength l kind name) (Word n) l kind name [] w empty_signature (λ t. refl) (ap (λ (k : ℕ). name_fields l kind name ++ Word k ∷ []) (sym (eqb-true n 0 e))))
    (λ e. stays Q (not l && nat_le n 65536) (AtSignature l kind name n) tt
    (λ m.
    let t = and_parts (not l) (nat_le n 65536) m in
    (refl, (w, not_true l t.0, some n e, leb-true n 65536 t.1))))
  where
    some : (n : ℕ) → (n == 0) ≡ false → 1 ≤ n
    some zero e = absurd (true≢false e)
    some (suc n) e = omega arith
symbol_sound symbols seen (AtSignature l kind name n) (Chars sig) k w =
    let Q : Turn SymbolPlace Symbol → Type 0 = SymbolOk symbols seen (AtSignature l kind name n) (Chars sig) in
    cond_both ((length sig == n) && list_all is_of_signature sig) _ _ Q
    (λ m.
    let t = and_parts (length sig == n) (list_all is_of_signature sig) m in
    let e : length sig ≡ n = eqb-true (length sig) n t.0 in
    let text : signature_fields sig ≡ Word n ∷ Chars sig ∷ [] = unless_empty sig (omega (arith, e, w.2)) ∙ ap (λ (n : ℕ). Word n ∷ Chars sig ∷ []) e in
    head_ok symbols seen (AtSignature l kind name n) (Chars sig) l kind name sig w.0 (omega (arith, e, w.3), all_of_signature sig t.1) (false_not_true l sig w.1)
    (ap (λ (t : List Field). name_fields l kind name ++ t) text))
    (λ e. tt)
symbol_sound symbols seen (AtFrame h) (Word frame) k w =
    stays (SymbolOk symbols seen (AtFrame h) (Word frame)) ((frame % 4 == 0) && nat_le frame 16777212) (AtTotal h frame) tt
    (λ m. let t = and_parts (frame % 4 == 0) (nat_le frame 16777212) m in (refl, (w, (eqb-true (frame % 4) 0 t.0, leb-true frame 16777212 t.1))))
symbol_sound symbols seen (AtTotal h frame) (Word total) k w =
    stays (SymbolOk symbols seen (AtTotal h frame) (Word total)) (nat_lt 0 total && nat_lt total (2 ^ 32)) (InCode h frame total [] AtOperation) tt
    (λ m.
    let t = and_parts (nat_lt 0 total) (nat_lt total (2 ^ 32)) m in (
      sym (append_assoc (head_fields h) (Word frame ∷ []) (Word total ∷ [])),
      (
        w.0,
        record {
          framed = w.1;
          room = ltb-true 0 total t.0;
          few = ltb-true total (2 ^ 32) t.1;
          each = All-nil (IsInstruction frame total);
          named = All-nil (λ a. All (λ o. IsWithin symbols (named_by_operand o)) a.operands);
          fits = All-nil (λ a. All OperandFits a.operands);
          place = tt;
        },
      ),
    ))
symbol_sound symbols seen (InCode h frame total before p) f k w =
    code_ok symbols seen h frame total before p f (instruction_step symbols frame total (nat_lt (length before + 1) total) p f) w.0 w.1 (instruction_sound symbols frame total (nat_lt (length before + 1) total) p f k w.1.place)
symbol_sound symbols seen (AtPieces h) (Word total) k w =
    stays (SymbolOk symbols seen (AtPieces h) (Word total)) (pieces_fit total) (InPieces h total [] AtPiece) tt
    (λ m.
    let t = and_parts (nat_lt 0 total) (nat_le total 4194304) m in
    let some : 0 < total = ltb-true 0 total t.0 in (
      refl,
      (
        w,
        record {
          room = some;
          filled = All-nil IsFilled;
          parted = tt;
          aligned = tt;
          named = All-nil (λ x. IsWithin symbols (named_by_piece x));
          fits = All-nil PieceFits;
          place = (refl, omega (arith, some, leb-true total 4194304 t.1));
        },
      ),
    ))
symbol_sound symbols seen (InPieces h total before p) f k w =
    pieces_ok symbols seen h total before p f (piece_step symbols before (total - (length before + 1)) p f) w.0 w.1 (piece_sound symbols before (total - (length before + 1)) p f k w.1.place)
symbol_sound symbols seen (AtSize h) (Word size) k w =
    wholes (SymbolOk symbols seen (AtSize h) (Word size)) (nat_lt 0 size && nat_le size size_limit) (symbol_with h (Common size)) tt
    (λ m.
    let t = and_parts (nat_lt 0 size) (nat_le size size_limit) m in (
      as_read h (Common size) (ap (λ (k : Kind). number_of_kind k) w.kind),
      record {
        name = w.named.spelled;
        bound = defined_bound h (Common size) refl w.local_bare;
        signature = w.signature;
        numbers = (All-nil (λ o. IsWithin symbols (named_by_operand o)), All-nil (λ x. IsWithin symbols (named_by_piece x)));
        pieces = tt;
        size = (omega (arith, ltb-true 0 size t.0), leb-true size size_limit t.1);
        function = tt;
        operands_fit = All-nil OperandFits;
        pieces_fit = All-nil PieceFits;
        code_fits = tt;
      },
      w.named.unseen,
    ))
symbol_sound symbols seen _ _ k w = tt

-- Each symbol that keeps the rules is read.

pub passes : (symbols : ℕ) (seen : List Symbol) (b : Bool) (p : SymbolPlace) (fs : List Field) → b ≡ true → runs (symbol_step symbols seen) (stay_if b p) fs ≡ runs (symbol_step symbols seen) (Stay p) fs
passes symbols seen b p fs h = ap (λ (t : Turn SymbolPlace Symbol). runs (symbol_step symbols seen) t fs) (stay_on b p h)

pub lift_code : (symbols : ℕ) (seen : List Symbol) (h : Head) (frame total : ℕ) (before : List Abs) (t : Turn InstructionPlace Abs) (fs : List Field) (a : Abs) → runs (instruction_step symbols frame total (nat_lt (length before + 1) total)) t fs ≡ Whole a → runs (symbol_step symbols seen) (behind_instruction h frame total before t) fs ≡ behind_instruction h frame total before (Whole a)
lift_code symbols seen h frame total before Bad fs a e = absurd cc
lift_code symbols seen h frame total before (Stay q) [] a e = absurd cc
lift_code symbols seen h frame total before (Stay q) (f ∷ fs) a e = lift_code symbols seen h frame total before (instruction_step symbols frame total (nat_lt (length before + 1) total) q f) fs a e
lift_code symbols seen h frame total before (Whole x) [] a e =
    let g : x ≡ a = cc in
    runs_none (symbol_step symbols seen) (behind_instruction h frame total before (Whole x)) ∙ ap (λ (y : Abs). behind_instruction h frame total before (Whole y)) g
lift_code symbols seen h frame total before (Whole x) (f ∷ fs) a e = absurd cc

pub lift_piece : (symbols : ℕ) (seen : List Symbol) (h : Head) (total : ℕ) (before : List DataPiece) (t : Turn PiecePlace DataPiece) (fs : List Field) (x : DataPiece) → runs (piece_step symbols before (total - (length before + 1))) t fs ≡ Whole x → runs (symbol_step symbols seen) (behind_piece h total before t) fs ≡ behind_piece h total before (Whole x)
lift_piece symbols seen h total before Bad fs x e = absurd cc
lift_piece symbols seen h total before (Stay q) [] x e = absurd cc
lift_piece symbols seen h total before (Stay q) (f ∷ fs) x e = lift_piece symbols seen h total before (piece_step symbols before (total - (length before + 1)) q f) fs x e
lift_piece symbols seen h total before (Whole y) [] x e =
    let g : y ≡ x = cc in
    runs_none (symbol_step symbols seen) (behind_piece h total before (Whole y)) ∙ ap (λ (z : DataPiece). behind_piece h total before (Whole z)) g
lift_piece symbols seen h total before (Whole y) (f ∷ fs) x e = absurd cc

-- code from here on, in a function that is as long as both parts together
code_read :
    (symbols : ℕ) (seen : List Symbol) (h : Head) (frame total : ℕ) (before code : List Abs) → total ≡ length before + length code
    → All (IsInstruction frame total) code → All (λ a. All (λ o. IsWithin symbols (named_by_operand o)) a.operands) code → EndsWell code
    → runs (symbol_step symbols seen) (Stay (InCode h frame total before AtOperation)) (flat_map instruction_fields code) ≡ Whole (symbol_with h (Text (record { frame = frame; code = before ++ code })))
code_read symbols seen h frame total before [] e i n w = absurd w
code_read symbols seen h frame total before (a ∷ []) e i n w =
    let N : Abs → Type 0 = λ a. All (λ o. IsWithin symbols (named_by_operand o)) a.operands in
    let last : nat_lt (length before + 1) total ≡ false = le-ltb (length before + 1) total (omega (arith, e)) in
    let read = instruction_read symbols frame total (nat_lt (length before + 1) total) a (All-head (IsInstruction frame total) a [] i) (All-head N a [] n) (λ m. w) in
    ap (λ (fs : List Field). runs (symbol_step symbols seen) (Stay (InCode h frame total before AtOperation)) fs) (append-nil (instruction_fields a))
    ∙ lift_code symbols seen h frame total before (Stay AtOperation) (instruction_fields a) a read
    ∙ ap (λ (b : Bool). if b then Stay (InCode h frame total (before ++ a ∷ []) AtOperation) else Whole (symbol_with h (Text (record { frame = frame; code = before ++ a ∷ [] })))) last
code_read symbols seen h frame total before (a ∷ b ∷ code) e i n w =
    let N : Abs → Type 0 = λ a. All (λ o. IsWithin symbols (named_by_operand o)) a.operands in
    let more : nat_lt (length before + 1) total ≡ true = lt-ltb (length before + 1) total (omega (arith, e)) in
    let read = instruction_read symbols frame total (nat_lt (length before + 1) total) a (All-head (IsInstruction frame total) a (b ∷ code) i) (All-head N a (b ∷ code) n) (λ m. absurd (true≢false (sym more ∙ m))) in
    let rest : List Field = flat_map instruction_fields (b ∷ code) in
    let here = lift_code symbols seen h frame total before (Stay AtOperation) (instruction_fields a) a read
    ∙ ap (λ (b : Bool). if b then Stay (InCode h frame total (before ++ a ∷ []) AtOperation) else Whole (symbol_with h (Text (record { frame = frame; code = before ++ a ∷ [] })))) more in
    runs_append (symbol_step symbols seen) (Stay (InCode h frame total before AtOperation)) (instruction_fields a) rest
    ∙ ap (λ (t : Turn SymbolPlace Symbol). runs (symbol_step symbols seen) t rest) here
    ∙ code_read symbols seen h frame total (before ++ a ∷ []) (b ∷ code) (omega (arith, e, push_length before a)) (All-tail (IsInstruction frame total) a (b ∷ code) i) (All-tail N a (b ∷ code) n) w
    ∙ ap (λ (c : List Abs). Whole (symbol_with h (Text (record { frame = frame; code = c })))) (append_assoc before (a ∷ []) (b ∷ code))

pub one_piece : (symbols : ℕ) (seen : List Symbol) (h : Head) (total : ℕ) (before : List DataPiece) (x : DataPiece) → CanCome symbols before (total - (length before + 1)) x → runs (symbol_step symbols seen) (Stay (InPieces h total before AtPiece)) (piece_fields x) ≡ behind_piece h total before (Whole x)
one_piece symbols seen h total before x c = lift_piece symbols seen h total before (Stay AtPiece) (piece_fields x) x (piece_read symbols before (total - (length before + 1)) x c)

next_size : (symbols : ℕ) (before : List DataPiece) (x y : DataPiece) (ps : List DataPiece) → pieces_size before % 4 ≡ 0 → AreGood symbols (pieces_size before) (ends_raw before) (x ∷ y ∷ ps) → (pieces_size (before ++ x ∷ []) % 4 ≡ 0) × AreGood symbols (pieces_size (before ++ x ∷ [])) (ends_raw (before ++ x ∷ [])) (y ∷ ps)
next_size symbols before (Address s o) y ps e g =
    let size : pieces_size (before ++ Address s o ∷ []) ≡ pieces_size before + 4 = size_push before (Address s o) in
    (omega (arith, size, e), subst (λ (n : ℕ). AreGood symbols n (ends_raw (before ++ Address s o ∷ [])) (y ∷ ps)) (sym size) (subst (λ (b : Bool). AreGood symbols (pieces_size before + 4) b (y ∷ ps)) (sym (ends_push before (Address s o))) g.2))
next_size symbols before (Raw b) (Raw c) ps e g = absurd (true≢false g.2.0)
next_size symbols before (Raw b) (Address s o) ps e g =
    let size : pieces_size (before ++ Raw b ∷ []) ≡ pieces_size before + length b = size_push before (Raw b) in
    (omega (arith, size, g.2.0), subst (λ (n : ℕ). AreGood symbols n (ends_raw (before ++ Raw b ∷ [])) (Address s o ∷ ps)) (sym size) (subst (λ (r : Bool). AreGood symbols (pieces_size before + length b) r (Address s o ∷ ps)) (sym (ends_push before (Raw b))) g.2))

pieces_read :
    (symbols : ℕ) (seen : List Symbol) (h : Head) (total : ℕ) (before : List DataPiece) (x : DataPiece) (ps : List DataPiece) → total ≡ length before + length (x ∷ ps)
    → pieces_size before % 4 ≡ 0 → AreGood symbols (pieces_size before) (ends_raw before) (x ∷ ps) → pieces_size before + pieces_size (x ∷ ps) ≤ size_limit
    → runs (symbol_step symbols seen) (Stay (InPieces h total before AtPiece)) (flat_map piece_fields (x ∷ ps)) ≡ Whole (symbol_with h (Data (before ++ x ∷ ps)))
pieces_read symbols seen h total before x [] e z g m =
    let last : nat_lt (length before + 1) total ≡ false = le-ltb (length before + 1) total (omega (arith, e)) in
    let left : 0 ≡ total - (length before + 1) = omega (arith, e) in
    let c = subst (λ (n : ℕ). CanCome symbols before n x) left (can_come symbols before x [] z g m) in
    ap (λ (fs : List Field). runs (symbol_step symbols seen) (Stay (InPieces h total before AtPiece)) fs) (append-nil (piece_fields x))
    ∙ one_piece symbols seen h total before x c
    ∙ ap (λ (b : Bool). if b then Stay (InPieces h total (before ++ x ∷ []) AtPiece) else Whole (symbol_with h (Data (before ++ x ∷ [])))) last
pieces_read symbols seen h total before x (y ∷ ps) e z g m =
    let more : nat_lt (length before + 1) total ≡ true = lt-ltb (length before + 1) total (omega (arith, e)) in
    let left : length (y ∷ ps) ≡ total - (length before + 1) = omega (arith, e) in
    let c = subst (λ (n : ℕ). CanCome symbols before n x) left (can_come symbols before x (y ∷ ps) z g m) in
    let rest : List Field = flat_map piece_fields (y ∷ ps) in
    let here = one_piece symbols seen h total before x c
    ∙ ap (λ (b : Bool). if b then Stay (InPieces h total (before ++ x ∷ []) AtPiece) else Whole (symbol_with h (Data (before ++ x ∷ [])))) more in
    let next = next_size symbols before x y ps z g in
    let fits : pieces_size (before ++ x ∷ []) + pieces_size (y ∷ ps) ≤ size_limit = omega (arith, m, size_push before x, size_cons x (y ∷ ps)) in
    runs_append (symbol_step symbols seen) (Stay (InPieces h total before AtPiece)) (piece_fields x) rest
    ∙ ap (λ (t : Turn SymbolPlace Symbol). runs (symbol_step symbols seen) t rest) here
    ∙ pieces_read symbols seen h total (before ++ x ∷ []) y ps (omega (arith, e, push_length before x)) next.0 next.1 fits
    ∙ ap (λ (c : List DataPiece). Whole (symbol_with h (Data c))) (append_assoc before (x ∷ []) (y ∷ ps))

pub all_left : {X : Type 0} (P : X → Type 0) (xs ys : List X) → All P (xs ++ ys) → All P xs
all_left P [] ys h = All-nil P
all_left P (x ∷ xs) ys h = All-cons P x xs (All-head P x (xs ++ ys) h) (all_left P xs ys (All-tail P x (xs ++ ys) h))

pub all_right : {X : Type 0} (P : X → Type 0) (xs ys : List X) → All P (xs ++ ys) → All P ys
all_right P [] ys h = h
all_right P (x ∷ xs) ys h = all_right P xs ys (All-tail P x (xs ++ ys) h)

pub all_parts : {X Y : Type 0} (P : Y → Type 0) (f : X → List Y) (xs : List X) → All P (flat_map f xs) → All (λ x. All P (f x)) xs
all_parts P f [] h = All-nil (λ x. All P (f x))
all_parts P f (x ∷ xs) h = All-cons (λ x. All P (f x)) x xs (all_left P (f x) (flat_map f xs) h) (all_parts P f xs (all_right P (f x) (flat_map f xs) h))

-- bodies

abbrev pub kind_of : Body → Kind
kind_of Declared = DeclaredKind
kind_of Used = UsedKind
kind_of (Text def) = TextKind
kind_of (Data pieces) = DataKind
kind_of (Common size) = CommonKind

pub body_read :
    (symbols : ℕ) (seen : List Symbol) (h : Head) (body : Body) → HasFunction body → HasWellPieced body → HasSizeInRange body → NamesWithin symbols body → CodeFits body
    → runs (symbol_step symbols seen) (behind_head h (kind_of body)) (body_fields body) ≡ Whole (symbol_with h body)
body_read symbols seen h Declared f p z n c = refl
body_read symbols seen h Used f p z n c = refl
body_read symbols seen h (Common size) f p z n c =
    ap (λ (t : Turn SymbolPlace Symbol). runs (symbol_step symbols seen) t []) (whole_on (nat_lt 0 size && nat_le size size_limit) (symbol_with h (Common size)) (and_from (nat_lt 0 size) (nat_le size size_limit) (lt-ltb 0 size (omega (arith, z.0))) (le-leb size size_limit z.1)))
body_read symbols seen h (Text def) f p z n c =
    let fs : List Field = flat_map instruction_fields def.code in
    passes symbols seen ((def.frame % 4 == 0) && nat_le def.frame 16777212) (AtTotal h def.frame) (Word (length def.code) ∷ fs) (and_from (def.frame % 4 == 0) (nat_le def.frame 16777212) (eq-eqb (def.frame % 4) 0 f.frame.0) (le-leb def.frame 16777212 f.frame.1))
    ∙ passes symbols seen (nat_lt 0 (length def.code) && nat_lt (length def.code) (2 ^ 32)) (InCode h def.frame (length def.code) [] AtOperation) fs (and_from (nat_lt 0 (length def.code)) (nat_lt (length def.code) (2 ^ 32)) (lt-ltb 0 (length def.code) (some def.code f.ending)) (lt-ltb (length def.code) (2 ^ 32) c))
    ∙ code_read symbols seen h def.frame (length def.code) [] def.code (omega arith) f.instructions (all_parts (λ o. IsWithin symbols (named_by_operand o)) (λ (a : Abs). a.operands) def.code n.0) f.ending
  where
    some : (code : List Abs) → EndsWell code → 0 < length code
    some [] w = absurd w
    some (i ∷ code) w = omega arith
body_read symbols seen h (Data []) f p z n c = absurd (none p.some)
  where
    none : 1 ≤ 0 → ⊥
    none h = omega (arith, h)
body_read symbols seen h (Data (x ∷ ps)) f p z n c =
    let fs : List Field = flat_map piece_fields (x ∷ ps) in
    let g = good_pieces symbols 0 (x ∷ ps) p.filled p.parted p.aligned n.1 in
    passes symbols seen (pieces_fit (length (x ∷ ps))) (InPieces h (length (x ∷ ps)) [] AtPiece) fs (and_from (nat_lt 0 (length (x ∷ ps))) (nat_le (length (x ∷ ps)) 4194304) (lt-ltb 0 (length (x ∷ ps)) (omega arith)) (le-leb (length (x ∷ ps)) 4194304 (omega (arith, least symbols 0 false (x ∷ ps) refl g, z.1))))
    ∙ pieces_read symbols seen h (length (x ∷ ps)) [] x ps (omega arith) refl g (omega (arith, z.1))

abbrev head_of : Symbol → Head
head_of s = record { local = s.local; kind = kind_of s.body; name = s.name; sig = s.sig }

bound_kind : (s : Symbol) → IsBoundWell s → (not s.local || defines (kind_of s.body)) ≡ true
bound_kind s h = by s.local refl
  where
    as_kind : (body : Body) → is_definition body ≡ true → defines (kind_of body) ≡ true
    as_kind Declared e = e
    as_kind Used e = e
    as_kind (Text def) e = e
    as_kind (Data pieces) e = e
    as_kind (Common size) e = e

    by : (l : Bool) → s.local ≡ l → (not s.local || defines (kind_of s.body)) ≡ true
    by true e = ap (λ (b : Bool). not b || defines (kind_of s.body)) e ∙ as_kind s.body (h e).0
    by false e = ap (λ (b : Bool). not b || defines (kind_of s.body)) e

kind_read : (k : Kind) → kind_among all_kinds (number_of_kind k) ≡ Some k
kind_read DeclaredKind = refl
kind_read UsedKind = refl
kind_read TextKind = refl
kind_read DataKind = refl
kind_read CommonKind = refl

kind_numbers : (body : Body) → kind_number body ≡ number_of_kind (kind_of body)
kind_numbers Declared = refl
kind_numbers Used = refl
kind_numbers (Text def) = refl
kind_numbers (Data pieces) = refl
kind_numbers (Common size) = refl

signature_read : (symbols : ℕ) (seen : List Symbol) (l : Bool) (k : Kind) (name sig : List ℕ) → IsSignature sig → (l ≡ true → sig ≡ []) → runs (symbol_step symbols seen) (Stay (AtSignatureLength l k name)) (signature_fields sig) ≡ with_signature l k name sig
signature_read symbols seen l k name [] g b = runs_none (symbol_step symbols seen) (with_signature l k name [])
signature_read symbols seen l k name (c ∷ sig) g b =
    let n : ℕ = length (c ∷ sig) in
    let whole : List ℕ = c ∷ sig in
    let open_local : not l ≡ true = by l refl in
    ap (λ (t : Bool). runs (symbol_step symbols seen) (if t then with_signature l k name [] else stay_if (not l && nat_le n 65536) (AtSignature l k name n)) (Chars whole ∷ [])) (ne_eqb n 0 (λ e. omega (arith, e)))
    ∙ passes symbols seen (not l && nat_le n 65536) (AtSignature l k name n) (Chars whole ∷ []) (and_from (not l) (nat_le n 65536) open_local (le-leb n 65536 g.0))
    ∙ ap (λ (t : Bool). runs (symbol_step symbols seen) (if t then with_signature l k name whole else Bad) []) (and_from (length whole == n) (list_all is_of_signature whole) (eq-eqb n n refl) (all_of_signature_back whole g.1))
    ∙ runs_none (symbol_step symbols seen) (with_signature l k name whole)
  where
    by : (m : Bool) → l ≡ m → not l ≡ true
    by true e = absurd (cons_not_nil (b e))
      where
        cons_not_nil : c ∷ sig ≡ [] → ⊥
        cons_not_nil h = cc
    by false e = ap (λ (b : Bool). not b) e

pub symbol_read : (symbols : ℕ) (seen : List Symbol) (s : Symbol) → IsSymbol symbols s → IsUnseen seen s.local s.name → runs (symbol_step symbols seen) (Stay AtBinding) (symbol_fields s) ≡ Whole s
symbol_read symbols seen s g u =
    let k : Kind = kind_of s.body in
    let step : SymbolPlace → Field → Turn SymbolPlace Symbol = symbol_step symbols seen in
    let rest : List Field = signature_fields s.sig ++ body_fields s.body in
    ap (λ (n : ℕ). runs step (Stay AtBinding) (Byte (binding_number s.local) ∷ Byte n ∷ Half (length s.name) ∷ Chars s.name ∷ rest)) (kind_numbers s.body)
    ∙ binding s.local (Byte (number_of_kind k) ∷ Half (length s.name) ∷ Chars s.name ∷ rest)
    ∙ ap (λ (x : Option Kind). runs step (kind_step s.local x) (Half (length s.name) ∷ Chars s.name ∷ rest)) (kind_read k)
    ∙ passes symbols seen (not s.local || defines k) (AtNameLength s.local k) (Half (length s.name) ∷ Chars s.name ∷ rest) (bound_kind s g.bound)
    ∙ passes symbols seen (nat_lt 0 (length s.name) && nat_le (length s.name) 255) (AtName s.local k (length s.name)) (Chars s.name ∷ rest) (and_from (nat_lt 0 (length s.name)) (nat_le (length s.name) 255) (lt-ltb 0 (length s.name) (omega (arith, g.name.0))) (le-leb (length s.name) 255 g.name.1))
    ∙ passes symbols seen ((length s.name == length s.name) && (list_all is_graphic s.name && not (list_any (is_named s.local s.name) seen))) (AtSignatureLength s.local k s.name) rest
    (and_from (length s.name == length s.name) (list_all is_graphic s.name && not (list_any (is_named s.local s.name) seen)) (eq-eqb (length s.name) (length s.name) refl)
    (and_from (list_all is_graphic s.name) (not (list_any (is_named s.local s.name) seen)) (all_graphic_back s.name g.name.2) (ap (λ (b : Bool). not b) u)))
    ∙ runs_append step (Stay (AtSignatureLength s.local k s.name)) (signature_fields s.sig) (body_fields s.body)
    ∙ ap (λ (t : Turn SymbolPlace Symbol). runs step t (body_fields s.body)) (signature_read symbols seen s.local k s.name s.sig g.signature (λ e. (g.bound e).1))
    ∙ body_read symbols seen (head_of s) s.body g.function g.pieces g.size g.numbers g.code_fits
  where
    binding : (l : Bool) (fs : List Field) → runs (symbol_step symbols seen) (Stay AtBinding) (Byte (binding_number l) ∷ fs) ≡ runs (symbol_step symbols seen) (Stay (AtKind l)) fs
    binding true fs = refl
    binding false fs = refl
