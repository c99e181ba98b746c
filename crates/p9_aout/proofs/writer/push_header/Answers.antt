use Rattle.p9_aout.proofs.Writing.{eight_appended}
use Rattle.p9_aout.proofs.writer.push_header.Goals as goal

pub returns : goal.returns
returns c =
    eight_appended _ _ _ _ _ _ _ _ _ _ _ _ _ _ _ _ _
    c.in_ok-push_word.ensures c.in_ok-push_word-2.ensures c.in_ok-push_word-3.ensures c.in_ok-push_word-4.ensures
    c.in_ok-push_word-5.ensures c.in_ok-push_word-6.ensures c.in_ok-push_word-7.ensures c.in_ok-push_word-8.ensures
