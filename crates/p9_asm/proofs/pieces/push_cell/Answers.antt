use Rattle.std.proofs.Common.{◌≡◌, [], rules}
use Rattle.p9_asm.specs.Files.{file_in, number_of}
use Rattle.p9_asm.proofs.Runs.{add_byte, add_start}
use Rattle.p9_asm.proofs.pieces.push_cell.Goals as goal

pub returns-in_ok-push-in-Byte : goal.returns-in_ok-push-in-Byte
returns-in_ok-push-in-Byte c = λ ps.
    rw c.in-Byte.is (add_byte c.args.raw.now.items c.push.new.self.items c.args.pieces.now.items c.in-Byte.byte ps c.in_ok-push-in-Byte.ensures.items)

pub returns-in_ok-push_address-in-Start : goal.returns-in_ok-push_address-in-Start
returns-in_ok-push_address-in-Start c = λ ps.
    let h = c.in_ok-push_address-in-Start.ensures in
    let r = c.replace-before.ensures in
    let none : c.replace-before.new.dest.items ≡ [] = search rules in
    let same : c.replace-before.result.items ≡ c.args.raw.now.items = search rules in
    let number : c.number_of.result ≡ number_of (file_in c.args.tables.now) c.in-Start.other = search rules in
    rw c.in-Start.is (add_start c.args.raw.now.items c.replace-before.new.dest.items c.replace-before.result.items c.args.pieces.now.items c.push_address.new.pieces.items c.number_of.result _ c.in-Start.offset ps none same number h)
