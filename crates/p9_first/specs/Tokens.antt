-- How a tree is written in tokens. Nodes outside the form of Form.antt have no clauses yet.
use Rattle.std.specs.Prelude.{ℕ, zero, suc, Bool, true, false, List, [], ◌∷◌, ◌++◌, map, flat_map, Option, Some, None, codes}
use Rattle.p9_first.specs.declared.tree.CBinary.{CBinary}
use Rattle.p9_first.specs.declared.tree.CBinary.TheVariants as operator
use Rattle.p9_first.specs.declared.tree.SpecWord.{SpecWord}
use Rattle.p9_first.specs.declared.tree.SpecWord.TheVariants as word
use Rattle.p9_first.specs.declared.tree.Kind.{Kind}
use Rattle.p9_first.specs.declared.tree.Kind.TheVariants as kind
use Rattle.p9_first.specs.Trees.{Labelled, node, Row, none, more}

-- a word, a number with its suffixes, a character, a text, a mark by its characters, or the end
pub data Token : Type 0 where
  Word : (name : List ℕ) → Token
  Number : (value : ℕ) (unsigned long : Bool) → Token
  Character : (value : ℕ) → Token
  Text : (bytes : List ℕ) → Token
  Mark : (characters : List ℕ) → Token
  End : Token

abbrev pub sign : CBinary → List ℕ
sign operator.Mul = codes "*"
sign operator.Div = codes "/"
sign operator.Rem = codes "%"
sign operator.Add = codes "+"
sign operator.Sub = codes "-"
sign operator.Shl = codes "<<"
sign operator.Shr = codes ">>"
sign operator.Lt = codes "<"
sign operator.Gt = codes ">"
sign operator.Le = codes "<="
sign operator.Ge = codes ">="
sign operator.Eq = codes "=="
sign operator.Ne = codes "!="
sign operator.And = codes "&"
sign operator.Xor = codes "^"
sign operator.Or = codes "|"
sign operator.AndAnd = codes "&&"
sign operator.OrOr = codes "||"

abbrev pub assignment_sign : Option CBinary → List ℕ
assignment_sign None = codes "="
assignment_sign (Some op) = sign op ++ codes "="

-- a word of a declaration's head
abbrev pub spec_tokens : SpecWord → List Token
spec_tokens word.Extern = Word (codes "extern") ∷ []
spec_tokens word.Static = Word (codes "static") ∷ []
spec_tokens word.Typedef = Word (codes "typedef") ∷ []
spec_tokens word.Auto = Word (codes "auto") ∷ []
spec_tokens word.Register = Word (codes "register") ∷ []
spec_tokens word.Const = Word (codes "const") ∷ []
spec_tokens word.Volatile = Word (codes "volatile") ∷ []
spec_tokens word.Void = Word (codes "void") ∷ []
spec_tokens word.Char = Word (codes "char") ∷ []
spec_tokens word.Short = Word (codes "short") ∷ []
spec_tokens word.Int = Word (codes "int") ∷ []
spec_tokens word.Long = Word (codes "long") ∷ []
spec_tokens word.Signed = Word (codes "signed") ∷ []
spec_tokens word.Unsigned = Word (codes "unsigned") ∷ []
spec_tokens (word.TypeName name) = Word name ∷ []
spec_tokens (word.Tag is_union name members) = []
spec_tokens (word.Enum name consts comma) = []

-- the tokens before the first part
abbrev pub front : Kind → List Token
front (kind.Declaration spec inits) = flat_map spec_tokens spec.words
front (kind.Function spec) = flat_map spec_tokens spec.words
front (kind.DeclName name) = Word name ∷ []
front kind.Block = Mark (codes "{") ∷ []
front (kind.Name name) = Word name ∷ []
front (kind.Number value unsigned long) = Number value unsigned long ∷ []
front (kind.Text texts) = map Text texts
front _ = []

-- in a declaration: an equals sign before an initialiser, a comma before each declarator but the first
abbrev pub before_later : List Bool → ℕ → List Token
before_later [] i = []
before_later (initialised ∷ inits) zero = Mark (codes ",") ∷ []
before_later (true ∷ inits) (suc zero) = Mark (codes "=") ∷ []
before_later (true ∷ inits) (suc (suc i)) = before_later inits i
before_later (false ∷ inits) (suc i) = before_later inits i

abbrev pub before_declared : List Bool → ℕ → List Token
before_declared inits zero = []
before_declared inits (suc i) = before_later inits (suc i)

-- the tokens directly before the part with this number
abbrev pub gap : Kind → ℕ → List Token
gap (kind.Declaration spec inits) i = before_declared inits i
gap (kind.Binary op) (suc i) = Mark (sign op) ∷ []
gap (kind.Assign op) (suc i) = Mark (assignment_sign op) ∷ []
gap kind.Call (suc zero) = Mark (codes "(") ∷ []
gap kind.Call (suc (suc i)) = Mark (codes ",") ∷ []
gap _ i = []

-- the tokens after the last part, where there are so many
abbrev pub end : Kind → ℕ → List Token
end (kind.Declaration spec inits) count = Mark (codes ";") ∷ []
end (kind.Params true true) count = Mark (codes "(") ∷ Word (codes "void") ∷ Mark (codes ")") ∷ []
end kind.Block count = Mark (codes "}") ∷ []
end kind.Expression count = Mark (codes ";") ∷ []
end kind.Call (suc zero) = Mark (codes "(") ∷ Mark (codes ")") ∷ []
end kind.Call _ = Mark (codes ")") ∷ []
end _ count = []

abbrev mutual
  pub tokens : {L : Type 0} → Labelled L → List Token
  tokens (node k label parts) = front k ++ tokens_from k zero parts

  -- the parts from the one with this number on
  pub tokens_from : {L : Type 0} → Kind → ℕ → Row L → List Token
  tokens_from k i none = end k i
  tokens_from k i (more first others) = gap k i ++ (tokens first ++ tokens_from k (suc i) others)

-- a file is written item by item, and then comes its end
abbrev pub file_tokens : {L : Type 0} → Row L → List Token
file_tokens none = End ∷ []
file_tokens (more first others) = tokens first ++ file_tokens others
