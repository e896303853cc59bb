use Rattle.std.proofs.Common.{rules}
use Rattle.lines.proofs.WordsLaws.{counted, read_more, read-other, read-over, read_all}
use Rattle.lines.proofs.words.digits.Goals as goal

pub returns-in_err-d : goal.returns-in_err-d
returns-in_err-d c =
    let a = c.args in
    let l = c.loop-byte in
    rw c.from_residual.ensures (counted a.base a.most a.text.now (search rules) (search rules) (read-other a.base a.most a.text.now l.byte-index l.n l.invariant (search rules) (search rules) (search rules)))

pub returns-in_err-checked_mul : goal.returns-in_err-checked_mul
returns-in_err-checked_mul c =
    let a = c.args in
    let l = c.loop-byte in
    rw c.from_residual-in_err-checked_mul.ensures (counted a.base a.most a.text.now (search rules) (search rules) (read-over a.base a.most a.text.now l.byte-index l.n l.invariant (search rules) (search rules) (search rules) (search rules)))

pub returns-in_err-n : goal.returns-in_err-n
returns-in_err-n c =
    let a = c.args in
    let l = c.loop-byte in
    rw c.from_residual-in_err-n.ensures (counted a.base a.most a.text.now (search rules) (search rules) (read-over a.base a.most a.text.now l.byte-index l.n l.invariant (search rules) (search rules) (search rules) (search rules)))

pub loop-byte-preserved : goal.loop-byte-preserved
loop-byte-preserved c =
    let a = c.args in
    let l = c.loop-byte in
    let e = read_more a.base a.most a.text.now l.byte-index l.n l.invariant (search rules) (search rules) (search rules) (search rules) in
    rw (c.in_ok-n.ensures.1, c.in_ok-checked_mul.ensures.1, c.in_ok-d.ensures.value.1, c.from.ensures) e

pub returns : goal.returns
returns c =
    let a = c.args in
    let l = c.loop-byte in
    counted a.base a.most a.text.now (search rules) (search rules) (read_all a.base a.most a.text.now l.byte-index l.n l.invariant (search rules))
