use Rattle.std.proofs.Common.{◌≤◌, sym, ◌∙◌, arith}
use Rattle.qh_circuit.proofs.LatestLemmas.{overlap_is}
use Rattle.qh_circuit.proofs.OrderLemmas.{time_back, overlap, left_out, kept_too, too_many}
use Rattle.qh_circuit.proofs.read.order_fault.Goals as goal

pub returns-then-gate-latest : goal.returns-then-gate-latest
returns-then-gate-latest c = λ before h count. time_back _ before c.args.gate.now (let t = h.time in omega arith)

pub returns-then-overlaps : goal.returns-then-overlaps
returns-then-overlaps c = λ before h count.
    let late : c.args.latest.time ≤ c.args.gate.now.time = omega arith in
    overlap _ before c.args.gate.now (let t = h.time in omega arith)
    (overlap_is c.args.latest before c.args.gate.now h late c.requires.first c.requires.second ∙ sym c.overlaps.ensures ∙ c.if-overlaps.true)

pub returns-then-gate-max_time : goal.returns-then-gate-max_time
returns-then-gate-max_time c = λ before h count.
    let late : c.args.latest.time ≤ c.args.gate.now.time = omega arith in
    left_out _ before c.args.gate.now (let t = h.time in omega arith)
    (overlap_is c.args.latest before c.args.gate.now h late c.requires.first c.requires.second ∙ sym c.overlaps.ensures ∙ c.if-overlaps.false) (omega arith)

pub returns-then-count-lt-MAX_GATES : goal.returns-then-count-lt-MAX_GATES
returns-then-count-lt-MAX_GATES c = λ before h count.
    let late : c.args.latest.time ≤ c.args.gate.now.time = omega arith in
    kept_too _ before c.args.gate.now (let t = h.time in omega arith)
    (overlap_is c.args.latest before c.args.gate.now h late c.requires.first c.requires.second ∙ sym c.overlaps.ensures ∙ c.if-overlaps.false) (omega arith)

pub returns : goal.returns
returns c = λ before h count.
    let late : c.args.latest.time ≤ c.args.gate.now.time = omega arith in
    too_many _ before c.args.gate.now (let t = h.time in omega arith)
    (overlap_is c.args.latest before c.args.gate.now h late c.requires.first c.requires.second ∙ sym c.overlaps.ensures ∙ c.if-overlaps.false) (omega arith) (omega arith)
