use Rattle.qh_request.specs.Jobs.{request}
use Rattle.qh_endure.proofs.Rounds.{crashed_on, made_now, proceeds_on, ends_since}
use Rattle.qh_endure.proofs.enduring.endure.Goals as goal

pub run-requires-in-loop-next-clause-made : goal.run-requires-in-loop-next-clause-made
run-requires-in-loop-next-clause-made c =
    let up_to = crashed_on (request c.args.words.now) c.args.circuit.now c.args.bits.now c.args.disk.now c.loop-next.disk c.crash.new.self c.args.out.now c.loop-next.out
    c.loop-next.invariant.proceeds c.crash.ensures.runs c.crash.ensures.moment c.crash.ensures.image c.crash.ensures.safe in
    made_now (request c.args.words.now) c.args.circuit.now c.args.bits.now c.args.disk.now c.crash.new.self up_to.moments up_to.made

pub returns-in_err-status-2-clause-made : goal.returns-in_err-status-2-clause-made
returns-in_err-status-2-clause-made c =
    let up_to = crashed_on (request c.args.words.now) c.args.circuit.now c.args.bits.now c.args.disk.now c.loop-next.disk c.crash.new.self c.args.out.now c.loop-next.out
    c.loop-next.invariant.proceeds c.crash.ensures.runs c.crash.ensures.moment c.crash.ensures.image c.crash.ensures.safe in
    (proceeds_on (request c.args.words.now) c.args.circuit.now c.args.bits.now c.args.disk.now c.crash.new.self c.run-in-loop-next.new.disk c.args.out.now c.loop-next.out
    c.run-in-loop-next.new.out up_to c.run-in-loop-next.ensures.proceeds).made

pub loop-next-preserved : goal.loop-next-preserved
loop-next-preserved c =
    let up_to = crashed_on (request c.args.words.now) c.args.circuit.now c.args.bits.now c.args.disk.now c.loop-next.disk c.crash.new.self c.args.out.now c.loop-next.out
    c.loop-next.invariant.proceeds c.crash.ensures.runs c.crash.ensures.moment c.crash.ensures.image c.crash.ensures.safe in
    record {
      proceeds = proceeds_on (request c.args.words.now) c.args.circuit.now c.args.bits.now c.args.disk.now c.crash.new.self c.run-in-loop-next.new.disk c.args.out.now c.loop-next.out
          c.run-in-loop-next.new.out up_to c.run-in-loop-next.ensures.proceeds;
      ends = ends_since (request c.args.words.now) c.args.circuit.now c.args.bits.now c.args.disk.now c.crash.new.self c.run-in-loop-next.new.disk c.args.out.now c.loop-next.out
          c.run-in-loop-next.new.out c.in_ok-status-2.status up_to c.in_ok-status-2.ensures.ends;
    }
