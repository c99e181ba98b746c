use Rattle.std.proofs.Common.{◌≡◌, length, cond, Option, Some, ap, ◌∙◌, ℕ, rules}
use Rattle.p9_facts.proofs.Listing.{number_step}
use Rattle.p9_facts.specs.Names.{key_of, same_key, same_symbol, number_in}
use Rattle.std.specs.HashMap.{get}
use Rattle.p9_facts.proofs.names.append.Goals as goal

pub returns-clause-numbered : goal.returns-clause-numbered
returns-clause-numbered c = λ q.
    let count : c.in_ok-number.number ≡ length c.args.names.now.list.items = search rules in
    let n = c.in_ok-number.number in
    let known = c.args.names.now.numbers in
    let k : get same_key c.insert.new.self (key_of q) ≡ cond (same_key c.key_of.result (key_of q)) (Some n) (get same_key known (key_of q)) = c.in_ok-insert.ensures.updates.0 (key_of q) in
    let h : get same_key c.insert.new.self (key_of q) ≡ cond (same_symbol c.args.symbol q) (Some n) (number_in c.args.names.now.list.items q) =
    k ∙ (ap (λ t. cond (same_key t (key_of q)) (Some n) (get same_key known (key_of q))) c.key_of.ensures
    ∙ ap (λ (o : Option ℕ). cond (same_symbol c.args.symbol q) (Some n) o) (c.requires.numbered q)) in
    rw c.in_ok-push.ensures.items (number_step c.args.names.now.list.items c.args.symbol q n _ c.requires.new count h)
