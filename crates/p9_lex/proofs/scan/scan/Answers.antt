use Rattle.std.proofs.Common.{◌+◌, ◌-◌, ◌≤◌, true, false, length, take, drop, ◌++◌, is_some, length-drop, length-take, Err, sym, ap, ◌∙◌, arith}
use Rattle.p9_lex.specs.Tokens.{scan, in_front, first_after, tokens_at}
use Rattle.p9_lex.proofs.Slices.{slice_front, slice_rest}
use Rattle.p9_lex.proofs.ScanLemmas.{scan_step, scan_stopped, scan_past, scan_end}
use Rattle.p9_lex.proofs.scan.scan.Goals as goal

pub returns-in-Err-clause-err : goal.returns-in-Err-clause-err
returns-in-Err-clause-err c =
    let l = c.loop-left in
    scan_stopped c.args.dialect c.args.bytes.now (scan c.args.dialect 0 0 1 true false c.args.bytes.now) l.list.items l.left.now l.place l.line l.first l.joined c.in-Err.fault c.stopped.result l.invariant.answer c.in-len1-up.len_at_least c.in-Err.ensures.err c.stopped.ensures.value

pub returns-then-end-gt-MAX_BYTES-clause-err : goal.returns-then-end-gt-MAX_BYTES-clause-err
returns-then-end-gt-MAX_BYTES-clause-err c =
    let l = c.loop-left in
    let front = ap length (slice_front l.left.now c.in-len1-up.len_at_least) in
    let inside = c.in-Ok.ensures.inside in
    scan_past c.args.dialect c.args.bytes.now (scan c.args.dialect 0 0 1 true false c.args.bytes.now) l.list.items l.left.now l.place l.line l.first l.joined c.in-Ok.found l.invariant.answer l.invariant.count c.in-len1-up.len_at_least c.in-Ok.ensures.ok inside.0 (omega (arith, inside, front)) c.if-end-gt-MAX_BYTES.true
    ∙ ap (λ e. Err e) (sym c.too_long.ensures)

pub loop-left-preserved : goal.loop-left-preserved
loop-left-preserved c =
    let l = c.loop-left in
    let f = c.in-Ok.found in
    let some_left = c.in-len1-up.len_at_least in
    let front = ap length (slice_front l.left.now some_left) in
    let inside = c.in-Ok.ensures.inside in
    let within : f.length ≤ length l.left.now = omega (arith, inside, front) in
    let small : l.place + f.length ≤ 16777216 = omega (arith, c.if-end-gt-MAX_BYTES.false) in
    let kind = c.kind_of-kind.ensures in
    let pushed = c.in_ok-put.ensures ∙ ap (λ k. l.list.items ++ tokens_at k l.place (l.place + f.length) l.line l.first l.joined) kind in
    let lines = ap (λ n. l.line + n) c.newlines-line.ensures.value in
    let states = ap (λ b. in_front c.put.new.list.items (scan c.args.dialect 0 (l.place + f.length) (l.line + c.newlines-line.result) b c.is_some-next_joined.result (take (length l.left.now - f.length) (drop f.length l.left.now)))) c.first_after-next_first.ensures in
    let joins = c.is_some-next_joined.ensures ∙ ap (λ k. is_some k) kind in
    let joined = ap (λ b. in_front c.put.new.list.items (scan c.args.dialect 0 (l.place + f.length) (l.line + c.newlines-line.result) (first_after l.first f.piece) b (take (length l.left.now - f.length) (drop f.length l.left.now)))) joins in
    record {
      answer = states ∙ joined ∙ scan_step c.args.dialect l.list.items c.put.new.list.items l.left.now l.place l.line (l.line + c.newlines-line.result) l.first l.joined f some_left c.in-Ok.ensures.ok inside.0 within pushed lines ∙ l.invariant.answer;
      count = omega (arith, ap length (slice_rest f.length l.left.now), length-drop f.length l.left.now, within, l.invariant.count);
      small = small;
      lines = omega (arith, c.newlines-line.ensures.small, length-take f.length l.left.now, l.invariant.lines);
    }

pub returns-clause-ok : goal.returns-clause-ok
returns-clause-ok c =
    let l = c.loop-left in
    scan_end c.args.dialect c.args.bytes.now (scan c.args.dialect 0 0 1 true false c.args.bytes.now) l.list.items c.put-2.new.list.items l.left.now l.place l.line l.first l.joined l.invariant.answer l.invariant.count l.invariant.small c.in_default.len_below c.in_ok-put-2.ensures
