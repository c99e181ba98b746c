use Rattle.std.proofs.Common.{sym}
use Rattle.p9_lang.specs.declared.types.CType.TheVariants as ctype
use Rattle.p9_lang.specs.Types.{type_of}
use Rattle.p9_types.proofs.Shapes.{type_of_void}
use Rattle.p9_scopes.specs.State.{known_of}
use Rattle.p9_declare.specs.Told.{steps_of}
use Rattle.p9_parts.specs.Told.{role_of, part_of}
use Rattle.p9_kinds.proofs.Answered.{judges_same, static_name, plain_name}
use Rattle.p9_kinds.proofs.steps.judged_decl_name.Goals as goal

pub returns-then-is_block_static : goal.returns-then-is_block_static
returns-then-is_block_static c =
    λ names. judges_same part_of c.added.result (known_of c.added.new.known)
    (static_name c.args.name.now (role_of names c.args.role.now) (known_of c.args.known.now) (known_of c.take_static.new.self)
    (steps_of c.in_ok-steps.steps.items) c.in_ok-number.number (type_of ctype.Void)
    (sym (c.if-is_block_static.ensures names)) c.in_ok-steps.ensures c.in_ok-number.ensures.number c.in_ok-number.ensures.known type_of_void)
    c.added.ensures

pub returns : goal.returns
returns c =
    λ names. judges_same part_of c.sound.result (known_of c.sound.new.known)
    (plain_name c.args.name.now (role_of names c.args.role.now) (known_of c.args.known.now) (steps_of c.in_ok-steps.steps.items)
    (sym (c.if-is_block_static.ensures names)) c.in_ok-steps.ensures)
    c.sound.ensures
