-- What a move is where a token is the one that is wanted, and where it is another.
use Rattle.std.proofs.Common.{◌≡◌, true, false, refl}
use Rattle.p9_grammar.specs.declared.terminal.Punctuator.TheVariants as mark
use Rattle.p9_grammar.specs.declared.terminal.Terminal.{Terminal}
use Rattle.p9_grammar.specs.declared.terminal.Terminal.TheVariants as t
use Rattle.p9_grammar.specs.declared.head.Head.{Head}
use Rattle.p9_grammar.specs.Machine.{Move, Shift, Refused, is_close_paren, close_paren, open_paren, close_bracket, semicolon, colon, paren_or, semicolon_or, brace_or, bracket_or, end_or}
use Rattle.p9_tree_moves.specs.Marks.{is_open_paren, is_close_bracket, is_semicolon, is_colon, is_close_brace, is_end}

pub close_paren_at : (m : Move) (token : Terminal) → true ≡ is_close_paren token → close_paren m token ≡ m
close_paren_at m (t.Mark mark.CloseParen) e = refl
close_paren_at m _ e = absurd (cc)

pub close_paren_else : (m : Move) (token : Terminal) → false ≡ is_close_paren token → close_paren m token ≡ Refused
close_paren_else m (t.Mark mark.CloseParen) e = absurd (cc)
close_paren_else m _ e = refl

pub open_paren_at : (h : Head) (token : Terminal) → true ≡ is_open_paren token → open_paren h token ≡ Shift h
open_paren_at h (t.Mark mark.OpenParen) e = refl
open_paren_at h _ e = absurd (cc)

pub open_paren_else : (h : Head) (token : Terminal) → false ≡ is_open_paren token → open_paren h token ≡ Refused
open_paren_else h (t.Mark mark.OpenParen) e = absurd (cc)
open_paren_else h _ e = refl

pub close_bracket_at : (m : Move) (token : Terminal) → true ≡ is_close_bracket token → close_bracket m token ≡ m
close_bracket_at m (t.Mark mark.CloseBracket) e = refl
close_bracket_at m _ e = absurd (cc)

pub close_bracket_else : (m : Move) (token : Terminal) → false ≡ is_close_bracket token → close_bracket m token ≡ Refused
close_bracket_else m (t.Mark mark.CloseBracket) e = absurd (cc)
close_bracket_else m _ e = refl

pub semicolon_at : (m : Move) (token : Terminal) → true ≡ is_semicolon token → semicolon m token ≡ m
semicolon_at m (t.Mark mark.Semicolon) e = refl
semicolon_at m _ e = absurd (cc)

pub semicolon_else : (m : Move) (token : Terminal) → false ≡ is_semicolon token → semicolon m token ≡ Refused
semicolon_else m (t.Mark mark.Semicolon) e = absurd (cc)
semicolon_else m _ e = refl

pub colon_at : (m : Move) (token : Terminal) → true ≡ is_colon token → colon m token ≡ m
colon_at m (t.Mark mark.Colon) e = refl
colon_at m _ e = absurd (cc)

pub colon_else : (m : Move) (token : Terminal) → false ≡ is_colon token → colon m token ≡ Refused
colon_else m (t.Mark mark.Colon) e = absurd (cc)
colon_else m _ e = refl

pub paren_or_at : (m other : Move) (token : Terminal) → true ≡ is_close_paren token → paren_or m other token ≡ m
paren_or_at m other (t.Mark mark.CloseParen) e = refl
paren_or_at m other _ e = absurd (cc)

pub paren_or_else : (m other : Move) (token : Terminal) → false ≡ is_close_paren token → paren_or m other token ≡ other
paren_or_else m other (t.Mark mark.CloseParen) e = absurd (cc)
paren_or_else m other _ e = refl

pub semicolon_or_at : (m other : Move) (token : Terminal) → true ≡ is_semicolon token → semicolon_or m other token ≡ m
semicolon_or_at m other (t.Mark mark.Semicolon) e = refl
semicolon_or_at m other _ e = absurd (cc)

pub semicolon_or_else : (m other : Move) (token : Terminal) → false ≡ is_semicolon token → semicolon_or m other token ≡ other
semicolon_or_else m other (t.Mark mark.Semicolon) e = absurd (cc)
semicolon_or_else m other _ e = refl

pub brace_or_at : (m other : Move) (token : Terminal) → true ≡ is_close_brace token → brace_or m other token ≡ m
brace_or_at m other (t.Mark mark.CloseBrace) e = refl
brace_or_at m other _ e = absurd (cc)

pub brace_or_else : (m other : Move) (token : Terminal) → false ≡ is_close_brace token → brace_or m other token ≡ other
brace_or_else m other (t.Mark mark.CloseBrace) e = absurd (cc)
brace_or_else m other _ e = refl

pub bracket_or_at : (m other : Move) (token : Terminal) → true ≡ is_close_bracket token → bracket_or m other token ≡ m
bracket_or_at m other (t.Mark mark.CloseBracket) e = refl
bracket_or_at m other _ e = absurd (cc)

pub bracket_or_else : (m other : Move) (token : Terminal) → false ≡ is_close_bracket token → bracket_or m other token ≡ other
bracket_or_else m other (t.Mark mark.CloseBracket) e = absurd (cc)
bracket_or_else m other _ e = refl

pub end_or_at : (m other : Move) (token : Terminal) → true ≡ is_end token → end_or m other token ≡ m
end_or_at m other t.End e = refl
end_or_at m other _ e = absurd (cc)

pub end_or_else : (m other : Move) (token : Terminal) → false ≡ is_end token → end_or m other token ≡ other
end_or_else m other t.End e = absurd (cc)
end_or_else m other _ e = refl
