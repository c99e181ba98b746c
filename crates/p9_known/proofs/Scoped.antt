-- What holds of all names in scope, level by level, and of the parameter lists of declarators.
use Rattle.std.proofs.Common.{◌≡◌, ℕ, ◌+◌, Bool, true, false, if◌then◌else◌, List, [], ◌∷◌, ◌++◌, Option, Some, None, Result, Ok, Err, refl, sym, subst}
use Rattle.p9_lang.specs.declared.tree.Kind.{Kind}
use Rattle.p9_lang.specs.declared.tree.Kind.TheVariants as kind
use Rattle.p9_lang.specs.declared.tree.EntryBy.{EntryBy}
use Rattle.p9_lang.specs.Names.{is_nameless, same_name}
use Rattle.p9_lang.specs.Types.{TypeTree, Void, Int, Meant, Nothing, Static}
use Rattle.p9_lang.specs.Rules.{Rule, Malformed, Undeclared, Redeclared, Broken, at_node}
use Rattle.p9_lang.specs.Constants.{Operand}
use Rattle.p9_lang.specs.Expressions.{Verdict, verdict}
use Rattle.p9_lang.specs.Scopes.{Known, Declared, Keyword, Enum, TagName, Tagging, new_tag, known_tag, tag_from, tagged_as, with_node, next_node, close_level, close_block, in_level, in_levels, or_else, innermost, around}
use Rattle.p9_lang.specs.Declarators.{Step, Shape, Names, Keeps, Points, Sized, Unsized, Takes, Head, Words, Named, Structure, Enumeration, head_of, Storage, storage_of, own_list}
use Rattle.p9_lang.specs.Parts.{Role, EntryOf, Context, Part, Value, Declarator, Object, Members, Enumerator, Parameter, NamedType, Braced, Filled, CaseLabel, DefaultLabel, Statement, Frame, Judged, last_object, or_object, inner_steps}
use Rattle.p9_lang.specs.Opening.{opened, of_head}
use Rattle.p9_lang.specs.Declaring.{broken_rules, names_of_list}
use Rattle.p9_lang.specs.Typing.{has, judged_brackets, judged_name, judged_text, judged_decl_name, judged_enumerator, judged_entry, judged_as, judged_expression, judged, is_filled_by_text, is_block_static, is_whole, text_type, operands_of}
use Rattle.p9_lang.proofs.Counting.{unless_of}
use Rattle.p9_formed.specs.Functions.{is_function_node}

-- OPENING

abbrev pub opens_level : Kind → Bool
opens_level kind.Block = true
opens_level (kind.Params inner void_word) = true
opens_level k = false

abbrev pub closes_level : Kind → Bool
closes_level kind.Block = true
closes_level (kind.Params inner void_word) = true
closes_level (kind.Function spec) = true
closes_level k = false

pub same_level : (k : Kind) → is_function_node k ≡ false → closes_level k ≡ opens_level k
same_level (kind.Function spec) f = cc
same_level k f = refl

pub either_same : (s : Known) (c : Bool) (x y : Tagging) → x.known.names ≡ s.names → y.known.names ≡ s.names → (if c then x else y).known.names ≡ s.names
either_same s true x y h k = h
either_same s false x y h k = k

pub known_tag_same : (t : TagName) (has_body : Bool) (s : Known) → (known_tag t has_body s).known.names ≡ s.names
known_tag_same t true s = refl
known_tag_same t false s = refl

pub tag_from_same : (o : Option TagName) (keyword : Keyword) (name : List ℕ) (has_body : Bool) (s : Known) → (tag_from o keyword name has_body s).known.names ≡ s.names
tag_from_same None keyword name has_body s = refl
tag_from_same (Some t) keyword name has_body s =
    either_same s _ (known_tag t has_body s) (new_tag (Redeclared name ∷ []) keyword name has_body s) (known_tag_same t has_body s) refl

pub tagged_same : (keyword : Keyword) (name : List ℕ) (has_body : Bool) (s : Known) → (tagged_as keyword name has_body s).known.names ≡ s.names
tagged_same keyword name has_body s =
    either_same s (is_nameless name) (new_tag [] keyword name has_body s) (tag_from _ keyword name has_body s) refl (tag_from_same _ keyword name has_body s)

pub head_names : (storage : Storage) (c : Context) (h : Head) (s : Known) → (of_head storage c h s).1.names ≡ s.names
head_names storage c (Words type) s = refl
head_names storage c (Named x) s = refl
head_names storage c (Structure is_union name members) s = tagged_same _ name _ s
head_names storage c (Enumeration name count) s = tagged_same Enum name _ s

pub opened_names : (k : Kind) (c : Context) (s : Known) → (opened k c s).1.names ≡ (if opens_level k then [] ∷ s.names else s.names)
opened_names (kind.Declaration spec inits) c s = head_names _ c _ s
opened_names (kind.Function spec) c s = head_names (storage_of spec.words) c (head_of spec.words) (record s { autos = 0 })
opened_names (kind.Member spec) c s = head_names _ c _ s
opened_names (kind.Param spec) c s = head_names _ c _ s
opened_names (kind.NamedType spec) c s = head_names _ c _ s
opened_names kind.Block c s = refl
opened_names (kind.Params inner void_word) c s = refl
opened_names _ c s = refl

-- WHAT IS ASKED of steps

abbrev pub Never : List Step → Type 0
Never steps = ⊥

abbrev pub Any : List Step → Type 0
Any steps = Unit {0}

-- NAMES IN SCOPE of which this holds

module _ (D : TypeTree → Meant → Type 0) where
  abbrev pub LevelIs : List Declared → Type 0
  LevelIs [] = Unit {0}
  LevelIs (d ∷ ds) = D d.type d.means × LevelIs ds

  abbrev pub LevelsAre : List (List Declared) → Type 0
  LevelsAre [] = Unit {0}
  LevelsAre (level ∷ levels) = LevelIs level × LevelsAre levels

  pub innermost_are : (levels : List (List Declared)) → LevelsAre levels → LevelIs (innermost levels)
  innermost_are [] h = tt
  innermost_are (level ∷ levels) h = h.0

  pub around_are : (levels : List (List Declared)) → LevelsAre levels → LevelsAre (around levels)
  around_are [] h = tt
  around_are (level ∷ levels) h = h.1

  pub in_level_is : (x : List ℕ) (ds : List Declared) (d : Declared) → LevelIs ds → in_level x ds ≡ Some d → D d.type d.means
  in_level_is x [] d h e = cc
  in_level_is x (y ∷ ys) d h e = by (same_name x y.name) e (λ k. in_level_is x ys d h.1 k)
    where
      by : (b : Bool) → (if b then Some y else in_level x ys) ≡ Some d → (in_level x ys ≡ Some d → D d.type d.means) → D d.type d.means
      by true k next = let z : y ≡ d = cc in subst (λ w. D w.type w.means) z h.0
      by false k next = next k

  pub either_is : (a b : Option Declared) (d : Declared) → (a ≡ Some d → D d.type d.means) → (b ≡ Some d → D d.type d.means) → or_else a b ≡ Some d
      → D d.type d.means
  either_is None b d h g e = g e
  either_is (Some x) b d h g e = h e

  pub in_levels_are : (x : List ℕ) (levels : List (List Declared)) (d : Declared) → LevelsAre levels → in_levels x levels ≡ Some d → D d.type d.means
  in_levels_are x [] d h e = cc
  in_levels_are x (level ∷ levels) d h e =
      either_is (in_level x level) (in_levels x levels) d (λ k. in_level_is x level d h.0 k) (λ k. in_levels_are x levels d h.1 k) e

  -- opening and closing

  pub opened_are : (b : Bool) (s q : Known) → LevelsAre s.names → q.names ≡ (if b then [] ∷ s.names else s.names) → LevelsAre q.names
  opened_are true s q v e = subst (λ levels. LevelsAre levels) (sym e) (tt, v)
  opened_are false s q v e = subst (λ levels. LevelsAre levels) (sym e) v

  pub left_are : (b : Bool) (x r : Known) → LevelsAre x.names → r.names ≡ (if b then around x.names else x.names) → LevelsAre r.names
  left_are true x r v e = subst (λ levels. LevelsAre levels) (sym e) (around_are x.names v)
  left_are false x r v e = subst (λ levels. LevelsAre levels) (sym e) v

  -- PARTS

  abbrev pub ShapeIs : Shape → Type 0
  ShapeIs (Takes parameters level) = LevelIs level
  ShapeIs (Names name) = Unit {0}
  ShapeIs Keeps = Unit {0}
  ShapeIs Points = Unit {0}
  ShapeIs (Sized c) = Unit {0}
  ShapeIs Unsized = Unit {0}

  abbrev pub StepsAre : List Step → Type 0
  StepsAre [] = Unit {0}
  StepsAre (step ∷ steps) = ShapeIs step.shape × StepsAre steps

  abbrev pub PartIs : (asked : List Step → Type 0) → Part → Type 0
  PartIs asked (Declarator steps) = StepsAre steps
  PartIs asked (Object type steps last role) = asked steps
  PartIs asked (Value o) = Unit {0}
  PartIs asked (Members members) = Unit {0}
  PartIs asked (Enumerator x value) = Unit {0}
  PartIs asked (Parameter type) = Unit {0}
  PartIs asked (NamedType type) = Unit {0}
  PartIs asked (Braced count) = Unit {0}
  PartIs asked (Filled next) = Unit {0}
  PartIs asked (CaseLabel word) = Unit {0}
  PartIs asked DefaultLabel = Unit {0}
  PartIs asked Statement = Unit {0}

  abbrev pub PartsAre : (asked : List Step → Type 0) → List Part → Type 0
  PartsAre asked [] = Unit {0}
  PartsAre asked (part ∷ parts) = PartIs asked part × PartsAre asked parts

  pub part_asked : (a b : List Step → Type 0) → ((steps : List Step) → a steps → b steps) → (part : Part) → PartIs a part → PartIs b part
  part_asked a b g (Object type steps last role) h = g steps h
  part_asked a b g (Declarator steps) h = h
  part_asked a b g _ h = tt

  pub parts_asked : (a b : List Step → Type 0) → ((steps : List Step) → a steps → b steps) → (parts : List Part) → PartsAre a parts → PartsAre b parts
  parts_asked a b g [] h = tt
  parts_asked a b g (part ∷ parts) h = (part_asked a b g part h.0, parts_asked a b g parts h.1)

  pub steps_append : (xs ys : List Step) → StepsAre xs → StepsAre ys → StepsAre (xs ++ ys)
  steps_append [] ys h g = g
  steps_append (x ∷ xs) ys h g = (h.0, steps_append xs ys h.1 g)

  pub parts_append : (asked : List Step → Type 0) (before : List Part) (part : Part) → PartsAre asked before → PartIs asked part → PartsAre asked (before ++ part ∷ [])
  parts_append asked [] part h g = (g, tt)
  parts_append asked (p ∷ ps) part h g = (h.0, parts_append asked ps part h.1 g)

  pub inner_are : (asked : List Step → Type 0) (parts : List Part) → PartsAre asked parts → StepsAre (inner_steps parts)
  inner_are asked [] h = tt
  inner_are asked (Declarator steps ∷ parts) h = h.0
  inner_are asked (_ ∷ parts) h = tt

  abbrev pub ListIs : Option (List Declared) → Type 0
  ListIs None = Unit {0}
  ListIs (Some level) = LevelIs level

  pub own_by : (number : ℕ) (shape : Shape) (steps : List Step) → ShapeIs shape → ListIs (own_list steps)
      → ListIs (own_list (record { number = number; shape = shape } ∷ steps))
  own_by number (Names name) steps h g = g
  own_by number Keeps steps h g = g
  own_by number Points steps h g = tt
  own_by number (Sized c) steps h g = tt
  own_by number Unsized steps h g = tt
  own_by number (Takes parameters level) steps h g = h

  pub own_is : (steps : List Step) → StepsAre steps → ListIs (own_list steps)
  own_is [] h = tt
  own_is (step ∷ steps) h = own_by step.number step.shape steps h.0 (own_is steps h.1)

  pub list_is : (o : Option (List Declared)) → ListIs o → LevelIs (names_of_list o)
  list_is None h = tt
  list_is (Some level) h = h

  abbrev pub ObjectIs : (asked : List Step → Type 0) → Option Part → Type 0
  ObjectIs asked (Some (Object type steps last role)) = asked steps
  ObjectIs asked o = Unit {0}

  pub or_object_is : (asked : List Step → Type 0) (o : Option Part) (part : Part) → ObjectIs asked o → PartIs asked part → ObjectIs asked (or_object o part)
  or_object_is asked (Some later) part h g = h
  or_object_is asked None (Object type steps last role) h g = g
  or_object_is asked None _ h g = tt

  pub last_is : (asked : List Step → Type 0) (parts : List Part) → PartsAre asked parts → ObjectIs asked (last_object parts)
  last_is asked [] h = tt
  last_is asked (part ∷ parts) h = or_object_is asked (last_object parts) part (last_is asked parts h.1) h.0

  -- NODES, which leave these levels of names

  abbrev pub Leaves : List (List Declared) → Judged → Type 0
  Leaves names m = (r : Part × Known) → m ≡ Ok r → (r.1.names ≡ names) × PartIs Never r.0

  pub err_leaves : (names : List (List Declared)) (broken : Broken) → Leaves names (Err broken)
  err_leaves names broken r e = cc

  pub if_leaves : (names : List (List Declared)) (c : Bool) (x y : Judged) → Leaves names x → Leaves names y → Leaves names (if c then x else y)
  if_leaves names true x y h g = h
  if_leaves names false x y h g = g

  pub has_leaves : (rules : List Rule) (type : TypeTree) (means : Meant) (part : Part) (q : Known) → PartIs Never part → Leaves q.names (has rules type means part q)
  has_leaves rules type means part q f r e =
      subst (λ x. (x.1.names ≡ q.names) × PartIs Never x.0) (unless_of (broken_rules (next_node q) rules) (part, with_node type means q) r e) (refl, f)

  module _ (s : Known) where
    pub brackets_leave : (asked : List Step → Type 0) (parts : List Part) → PartsAre asked parts → Leaves s.names (judged_brackets parts s)
    brackets_leave asked [] h = has_leaves [] Void Nothing _ s (tt, tt)
    brackets_leave asked (Value o ∷ []) h = has_leaves [] Void Nothing _ s (tt, tt)
    brackets_leave asked (Declarator steps ∷ []) h = has_leaves [] Void Nothing _ s (steps_append steps _ h.0 (tt, tt))
    brackets_leave asked (Declarator steps ∷ (Value o ∷ [])) h = has_leaves [] Void Nothing _ s (steps_append steps _ h.0 (tt, tt))
    brackets_leave asked _ h = err_leaves s.names (at_node (next_node s) Malformed)

    pub name_leaves : (x : List ℕ) (o : Option Declared) → Leaves s.names (judged_name x o s)
    name_leaves x None = err_leaves s.names (at_node (next_node s) (Undeclared x))
    name_leaves x (Some d) = has_leaves _ d.type d.means _ s tt

    pub text_leaves : (type : TypeTree) (role : Role) → Leaves s.names (judged_text type role s)
    text_leaves type role =
        if_leaves s.names (is_filled_by_text role) _ _ (has_leaves [] type Nothing _ s tt)
        (has_leaves _ type (Static s.statics) _ (record s { statics = s.statics + 1 }) tt)

    pub decl_name_leaves : (x : List ℕ) (role : Role) → Leaves s.names (judged_decl_name x role s)
    decl_name_leaves x role =
        if_leaves s.names (is_block_static role) _ _
        (has_leaves [] Void (Static s.statics) _ (record s { statics = s.statics + 1 }) (tt, tt))
        (has_leaves [] Void Nothing _ s (tt, tt))

    pub enumerator_leaves : (x : List ℕ) (parts : List Part) → Leaves s.names (judged_enumerator x parts s)
    enumerator_leaves x [] = has_leaves [] Int Nothing _ s tt
    enumerator_leaves x (Value o ∷ []) = has_leaves [] Int Nothing _ s tt
    enumerator_leaves x _ = err_leaves s.names (at_node (next_node s) Malformed)

    pub entry_leaves : (entry_by : EntryBy) (role : Role) (parts : List Part) → Leaves s.names (judged_entry entry_by role parts s)
    entry_leaves entry_by (EntryOf list next) parts = has_leaves _ _ Nothing _ s tt
    entry_leaves entry_by _ parts = err_leaves s.names (at_node (next_node s) Malformed)

    pub as_leaves : (k : Kind) (operands : List Operand) (m : Result Verdict Rule) → Leaves s.names (judged_as k operands m s)
    as_leaves k operands (Ok w) = has_leaves [] w.type Nothing _ s tt
    as_leaves k operands (Err rule) = err_leaves s.names (at_node (next_node s) rule)

    pub expression_leaves : (k : Kind) (role : Role) (operands : Option (List Operand)) → Leaves s.names (judged_expression k role operands s)
    expression_leaves k role None = err_leaves s.names (at_node (next_node s) Malformed)
    expression_leaves k role (Some operands) = as_leaves k operands (verdict s.tags (is_whole role) k operands)

    pub judged_leaves : (asked : List Step → Type 0) (k : Kind) (f : Frame) (parts : List Part) → LevelsAre s.names → PartsAre asked parts
        → Leaves (if closes_level k then around s.names else s.names) (judged k f parts s)
    judged_leaves asked (kind.Declaration spec inits) f parts v h = has_leaves _ Void Nothing Statement s tt
    judged_leaves asked (kind.Function spec) f parts v h = has_leaves _ Void Nothing Statement (close_level s) tt
    judged_leaves asked (kind.Member spec) f parts v h = has_leaves _ Void Nothing _ s tt
    judged_leaves asked (kind.EnumConst x valued) f parts v h = enumerator_leaves x parts
    judged_leaves asked (kind.DeclName x) f parts v h = decl_name_leaves x f.context.role
    judged_leaves asked (kind.Star volatiles) f parts v h = has_leaves [] Void Nothing _ s (steps_append (inner_steps parts) _ (inner_are asked parts h) (tt, tt))
    judged_leaves asked (kind.Brackets inner sized) f parts v h = brackets_leave asked parts h
    judged_leaves asked (kind.Params inner void_word) f parts v h =
        has_leaves [] Void Nothing _ (close_level s)
        (steps_append (inner_steps parts) _ (inner_are asked parts h) (innermost_are s.names v, tt))
    judged_leaves asked kind.DeclParens f parts v h = has_leaves [] Void Nothing _ s (steps_append (inner_steps parts) _ (inner_are asked parts h) (tt, tt))
    judged_leaves asked (kind.Param spec) f parts v h = has_leaves _ _ Nothing _ s tt
    judged_leaves asked (kind.NamedType spec) f parts v h = has_leaves _ _ _ _ s tt
    judged_leaves asked (kind.InitList comma) f parts v h = has_leaves [] _ Nothing _ s tt
    judged_leaves asked (kind.Entry entry_by equals) f parts v h = entry_leaves entry_by f.context.role parts
    judged_leaves asked kind.Block f parts v h = has_leaves [] Void Nothing Statement (close_block s) tt
    judged_leaves asked kind.Expression f parts v h = has_leaves [] Void Nothing Statement s tt
    judged_leaves asked kind.If f parts v h = has_leaves _ Void Nothing Statement s tt
    judged_leaves asked kind.While f parts v h = has_leaves _ Void Nothing Statement s tt
    judged_leaves asked kind.Do f parts v h = has_leaves _ Void Nothing Statement s tt
    judged_leaves asked (kind.For first test step) f parts v h = has_leaves _ Void Nothing Statement s tt
    judged_leaves asked kind.Switch f parts v h = has_leaves _ Void Nothing Statement s tt
    judged_leaves asked kind.Case f parts v h = has_leaves _ Void Nothing _ s tt
    judged_leaves asked kind.Default f parts v h = has_leaves [] Void Nothing DefaultLabel s tt
    judged_leaves asked kind.Break f parts v h = has_leaves _ Void Nothing Statement s tt
    judged_leaves asked kind.Continue f parts v h = has_leaves _ Void Nothing Statement s tt
    judged_leaves asked kind.Return f parts v h = has_leaves _ Void Nothing Statement s tt
    judged_leaves asked (kind.Name x) f parts v h = name_leaves x (in_levels x s.names)
    judged_leaves asked (kind.Text texts) f parts v h = text_leaves (text_type texts) f.context.role
    judged_leaves asked k f parts v h = expression_leaves k f.context.role (operands_of parts)
