-- What declarators declare, by the nodes that they are parts of.
use Rattle.std.proofs.Common.{◌≡◌, ◌++◌, List, Option, Some, None, refl}
use Rattle.p9_lang.specs.Names.{is_among}
use Rattle.p9_lang.specs.Scopes.{Known}
use Rattle.p9_lang.specs.Declarators.{ByNothing, Step, NameNode}
use Rattle.p9_lang.specs.Parts.{Part, Frame, name_in, object_names}
use Rattle.p9_lang.specs.Declaring.{names_in_braces, declare_member, parameter_meaning, declare_parameter, close_type}
use Rattle.p9_declare.specs.Operations.{type_closed, member_declared, parameter_declared}

pub type_closed_in : (f : Frame) (steps : List Step) (s : Known) → close_type f steps s ≡ type_closed (λ t. t) ByNothing f.base steps s
type_closed_in f steps s = refl

pub member_declared_in : (f : Frame) (before : List Part) (steps : List Step) (n : Option NameNode) (s : Known)
    → declare_member f before steps n s
    ≡ member_declared f.base (is_among (names_in_braces f.context.role ++ object_names before) (name_in n)) steps n s
member_declared_in f before steps None s = refl
member_declared_in f before steps (Some n) s = refl

pub parameter_declared_in : (f : Frame) (steps : List Step) (n : Option NameNode) (s : Known)
    → declare_parameter f steps n s ≡ parameter_declared f.base (parameter_meaning f.context.role) steps n s
parameter_declared_in f steps None s = refl
parameter_declared_in f steps (Some n) s = refl
