-- What a token is, by what the table and the flags tell of its name.
use Rattle.std.proofs.Common.{◌≡◌, ℕ, Bool, true, false, cond, List, [], ◌∷◌, Option, Some, None, refl, sym, ap, ◌∙◌}
use Rattle.std.specs.Str.{bytes_eq}
use Rattle.std.specs.Map.{lookup_key}
use Rattle.p9_lex.specs.declared.token.Token.{Token}
use Rattle.p9_lex.specs.declared.token.TokenKind.{TokenKind}
use Rattle.p9_cpp.specs.declared.macros.Macro.{Macro}
use Rattle.p9_cpp.specs.declared.uses.Known.{Known}
use Rattle.p9_cpp.specs.Macros.{Table, Use, Stands, is_among, macro_of, word_in, use_of, use_of_macro, use_of_params, use_of_word, use_of_name}
use Rattle.p9_cpp.specs.Reading.{flag_at, flags_of, IsKnown}
use Rattle.p9_cpp.proofs.Sizes.{bytes_same}
use Rattle.p9_cpp.proofs.Flags.{flag_known}

key_by : (c : Bool) (e : List ℕ × Option Macro) (x k : List ℕ) (o : Option (List ℕ)) → bytes_eq x e.0 ≡ c → (o ≡ Some k → k ≡ x) → cond c (Some e.0) o ≡ Some k → k ≡ x
key_by true e x k o is later found = let same : e.0 ≡ k = cc in sym same ∙ sym (bytes_same x e.0 is)
key_by false e x k o is later found = later found

-- a key that is found is the name that was looked up
pub key_found : (es : Table) (x k : List ℕ) → lookup_key (bytes_eq x) es ≡ Some k → k ≡ x
key_found [] x k found = absurd (cc)
key_found (e ∷ es) x k found = key_by (bytes_eq x e.0) e x k (lookup_key (bytes_eq x) es) refl (key_found es x k) found

module _ (table : Table) (names : List (List ℕ)) (known : Known) (name : List ℕ) where
  pub marked : (flags : List Bool) (b : Bool) → known.name.now ≡ name → IsKnown table known → flags ≡ flags_of table names → b ≡ flag_at flags known.index → is_among names name ≡ b
  marked flags b same is all flag =
      ap (is_among names) (sym same) ∙ sym (flag_known table names known.index known.name.now (Some known.definition.now) is) ∙ ap (λ fs. flag_at fs known.index) (sym all) ∙ sym flag

  pub hidden_stands : (kind : TokenKind) (ts : List Token) → word_in kind ≡ Some name → is_among names name ≡ true → use_of table names kind ts ≡ Stands
  hidden_stands kind ts word hid = ap (λ w. use_of_word table names w ts) word ∙ ap (λ b. cond b Stands (use_of_macro name (macro_of table name) ts)) hid

  pub known_used : (kind : TokenKind) (ts : List Token) → word_in kind ≡ Some name → is_among names name ≡ false → macro_of table name ≡ Some known.definition.now → use_of table names kind ts ≡ use_of_params name known.definition.now known.definition.now.params ts
  known_used kind ts word free found =
      ap (λ w. use_of_word table names w ts) word ∙ ap (λ b. cond b Stands (use_of_macro name (macro_of table name) ts)) free ∙ ap (λ o. use_of_macro name o ts) found
