use Rattle.std.proofs.Common.{map, string_bytes}
use Rattle.qh_limits.specs.Counts.{RoseBy}
use Rattle.qh_words.proofs.Requests.{prob_uncut}
use Rattle.qh_request.specs.Seen.{seen}
use Rattle.qh_request.proofs.Journals.{keeps_asked, stays_stable, unwritten_refused, old_is_read, disk_runs, old_runs, reached_job}
use Rattle.qh_request.proofs.Ends.{whole_run, whole_asked, exact_asked, unwritten_by, usage_answer, only_usage, refused_asked, words_refused, never_over_asked, journal_refused, completes}
use Rattle.qh_top.proofs.alone.qsimh_alone.Goals as goal

pub returns-clause-journal : goal.returns-clause-journal
returns-clause-journal g c =
    let circuit = seen g.C.Source.left g.C.Source.faults c.args.circuit.now c.answered.new.circuit in
    let bits = seen g.B.Source.left g.B.Source.faults c.args.bits.now c.answered.new.bits in
    λ o j a made. (keeps_asked g.D.Disk.face g.F.Disk.face c.args.disk.now c.answered.new.disk c.args.old.now c.answered.new.old _ circuit bits c.answered.ensures.moves o j a).made made

pub returns-clause-renewed : goal.returns-clause-renewed
returns-clause-renewed g c =
    let circuit = seen g.C.Source.left g.C.Source.faults c.args.circuit.now c.answered.new.circuit in
    let bits = seen g.B.Source.left g.B.Source.faults c.args.bits.now c.answered.new.bits in
    λ o j a fresh made. (keeps_asked g.D.Disk.face g.F.Disk.face c.args.disk.now c.answered.new.disk c.args.old.now c.answered.new.old _ circuit bits c.answered.ensures.moves o j a).renewed fresh made

pub returns-clause-begun : goal.returns-clause-begun
returns-clause-begun g c =
    let circuit = seen g.C.Source.left g.C.Source.faults c.args.circuit.now c.answered.new.circuit in
    let bits = seen g.B.Source.left g.B.Source.faults c.args.bits.now c.answered.new.bits in
    λ o j a counts. (keeps_asked g.D.Disk.face g.F.Disk.face c.args.disk.now c.answered.new.disk c.args.old.now c.answered.new.old _ circuit bits c.answered.ensures.moves o j a).begun counts

pub returns-clause-stable : goal.returns-clause-stable
returns-clause-stable g c =
    let circuit = seen g.C.Source.left g.C.Source.faults c.args.circuit.now c.answered.new.circuit in
    let bits = seen g.B.Source.left g.B.Source.faults c.args.bits.now c.answered.new.bits in
    λ o j e stale is. stays_stable g.D.Disk.face g.F.Disk.face c.args.disk.now c.answered.new.disk c.args.old.now c.answered.new.old _ circuit bits c.answered.ensures.moves o j e stale is

pub returns-clause-stable_new : goal.returns-clause-stable_new
returns-clause-stable_new g c =
    let circuit = seen g.C.Source.left g.C.Source.faults c.args.circuit.now c.answered.new.circuit in
    let bits = seen g.B.Source.left g.B.Source.faults c.args.bits.now c.answered.new.bits in
    λ o j t a late empty. (keeps_asked g.D.Disk.face g.F.Disk.face c.args.disk.now c.answered.new.disk c.args.old.now c.answered.new.old _ circuit bits c.answered.ensures.moves o j a).stable_new t late empty

pub returns-clause-safe : goal.returns-clause-safe
returns-clause-safe g c =
    let circuit = seen g.C.Source.left g.C.Source.faults c.args.circuit.now c.answered.new.circuit in
    let bits = seen g.B.Source.left g.B.Source.faults c.args.bits.now c.answered.new.bits in
    let out = seen g.O.Sink.held g.O.Sink.faults c.args.out.now c.answered.new.out in
    λ o j r a kept done low. (whole_asked _ circuit bits out (g.D.Disk.face c.args.disk.now) (g.D.Disk.face c.answered.new.disk) (g.F.Disk.face c.args.old.now) (λ n. RoseBy n (g.T.Timer.granted_count c.args.timer.now) (g.T.Timer.granted_count c.answered.new.timer)) _ c.answered.ensures.ended o j a done).run.whole.safe kept r low

pub returns-clause-record_done : goal.returns-clause-record_done
returns-clause-record_done g c =
    let circuit = seen g.C.Source.left g.C.Source.faults c.args.circuit.now c.answered.new.circuit in
    let bits = seen g.B.Source.left g.B.Source.faults c.args.bits.now c.answered.new.bits in
    let out = seen g.O.Sink.held g.O.Sink.faults c.args.out.now c.answered.new.out in
    λ o j a done. (whole_asked _ circuit bits out (g.D.Disk.face c.args.disk.now) (g.D.Disk.face c.answered.new.disk) (g.F.Disk.face c.args.old.now) (λ n. RoseBy n (g.T.Timer.granted_count c.args.timer.now) (g.T.Timer.granted_count c.answered.new.timer)) _ c.answered.ensures.ended o j a done).run.whole.recorded

pub returns-clause-record_grows : goal.returns-clause-record_grows
returns-clause-record_grows g c =
    let circuit = seen g.C.Source.left g.C.Source.faults c.args.circuit.now c.answered.new.circuit in
    let bits = seen g.B.Source.left g.B.Source.faults c.args.bits.now c.answered.new.bits in
    λ o j a stale. (keeps_asked g.D.Disk.face g.F.Disk.face c.args.disk.now c.answered.new.disk c.args.old.now c.answered.new.old _ circuit bits c.answered.ensures.moves o j a).grows stale

pub returns-clause-exact : goal.returns-clause-exact
returns-clause-exact g c =
    let circuit = seen g.C.Source.left g.C.Source.faults c.args.circuit.now c.answered.new.circuit in
    let bits = seen g.B.Source.left g.B.Source.faults c.args.bits.now c.answered.new.bits in
    let out = seen g.O.Sink.held g.O.Sink.faults c.args.out.now c.answered.new.out in
    exact_asked _ circuit bits out (g.D.Disk.face c.args.disk.now) (g.D.Disk.face c.answered.new.disk) (g.F.Disk.face c.args.old.now) (λ n. RoseBy n (g.T.Timer.granted_count c.args.timer.now) (g.T.Timer.granted_count c.answered.new.timer)) _ c.answered.ensures.ended

pub returns-clause-unwritten_refused : goal.returns-clause-unwritten_refused
returns-clause-unwritten_refused g c =
    let circuit = seen g.C.Source.left g.C.Source.faults c.args.circuit.now c.answered.new.circuit in
    let bits = seen g.B.Source.left g.B.Source.faults c.args.bits.now c.answered.new.bits in
    unwritten_refused g.D.Disk.face g.F.Disk.face c.args.disk.now c.answered.new.disk c.args.old.now c.answered.new.old _ circuit bits c.answered.ensures.moves

pub returns-clause-unwritten_finished : goal.returns-clause-unwritten_finished
returns-clause-unwritten_finished g c =
    let circuit = seen g.C.Source.left g.C.Source.faults c.args.circuit.now c.answered.new.circuit in
    let bits = seen g.B.Source.left g.B.Source.faults c.args.bits.now c.answered.new.bits in
    λ o j a stale finished. (keeps_asked g.D.Disk.face g.F.Disk.face c.args.disk.now c.answered.new.disk c.args.old.now c.answered.new.old _ circuit bits c.answered.ensures.moves o j a).finished stale finished

pub returns-clause-refused : goal.returns-clause-refused
returns-clause-refused g c =
    let circuit = seen g.C.Source.left g.C.Source.faults c.args.circuit.now c.answered.new.circuit in
    let bits = seen g.B.Source.left g.B.Source.faults c.args.bits.now c.answered.new.bits in
    let out = seen g.O.Sink.held g.O.Sink.faults c.args.out.now c.answered.new.out in
    refused_asked _ circuit bits out (g.D.Disk.face c.args.disk.now) (g.D.Disk.face c.answered.new.disk) (g.F.Disk.face c.args.old.now) (g.F.Disk.face c.answered.new.old) (λ n. RoseBy n (g.T.Timer.granted_count c.args.timer.now) (g.T.Timer.granted_count c.answered.new.timer)) _ _ c.answered.ensures.printed c.answered.ensures.stopped c.answered.ensures.ended

pub returns-clause-refused_by_words : goal.returns-clause-refused_by_words
returns-clause-refused_by_words g c =
    let circuit = seen g.C.Source.left g.C.Source.faults c.args.circuit.now c.answered.new.circuit in
    let bits = seen g.B.Source.left g.B.Source.faults c.args.bits.now c.answered.new.bits in
    let out = seen g.O.Sink.held g.O.Sink.faults c.args.out.now c.answered.new.out in
    words_refused _ circuit bits out (g.D.Disk.face c.args.disk.now) (g.D.Disk.face c.answered.new.disk) (g.F.Disk.face c.args.old.now) (g.F.Disk.face c.answered.new.old) (λ n. RoseBy n (g.T.Timer.granted_count c.args.timer.now) (g.T.Timer.granted_count c.answered.new.timer)) _ _ c.answered.ensures.printed c.answered.ensures.stopped c.answered.ensures.ended

pub returns-clause-prob_fits : goal.returns-clause-prob_fits
returns-clause-prob_fits g c =
    let circuit = seen g.C.Source.left g.C.Source.faults c.args.circuit.now c.answered.new.circuit in
    let bits = seen g.B.Source.left g.B.Source.faults c.args.bits.now c.answered.new.bits in
    let out = seen g.O.Sink.held g.O.Sink.faults c.args.out.now c.answered.new.out in
    never_over_asked _ circuit bits out (g.D.Disk.face c.args.disk.now) (g.D.Disk.face c.answered.new.disk) (g.F.Disk.face c.args.old.now) (g.F.Disk.face c.answered.new.old) (λ n. RoseBy n (g.T.Timer.granted_count c.args.timer.now) (g.T.Timer.granted_count c.answered.new.timer)) _ _ c.answered.ensures.printed c.answered.ensures.stopped c.answered.ensures.ended (prob_uncut (map string_bytes c.args.words.now))

pub returns-clause-journal_refused : goal.returns-clause-journal_refused
returns-clause-journal_refused g c =
    let circuit = seen g.C.Source.left g.C.Source.faults c.args.circuit.now c.answered.new.circuit in
    let bits = seen g.B.Source.left g.B.Source.faults c.args.bits.now c.answered.new.bits in
    let out = seen g.O.Sink.held g.O.Sink.faults c.args.out.now c.answered.new.out in
    journal_refused _ circuit bits out (g.D.Disk.face c.args.disk.now) (g.D.Disk.face c.answered.new.disk) (g.F.Disk.face c.args.old.now) (g.F.Disk.face c.answered.new.old) (λ n. RoseBy n (g.T.Timer.granted_count c.args.timer.now) (g.T.Timer.granted_count c.answered.new.timer)) _ _ c.answered.ensures.printed c.answered.ensures.stopped c.answered.ensures.ended

pub returns-clause-complete : goal.returns-clause-complete
returns-clause-complete g c =
    let circuit = seen g.C.Source.left g.C.Source.faults c.args.circuit.now c.answered.new.circuit in
    let bits = seen g.B.Source.left g.B.Source.faults c.args.bits.now c.answered.new.bits in
    let out = seen g.O.Sink.held g.O.Sink.faults c.args.out.now c.answered.new.out in
    completes _ circuit bits out (g.D.Disk.face c.args.disk.now) (g.D.Disk.face c.answered.new.disk) (g.F.Disk.face c.args.old.now) (g.F.Disk.face c.answered.new.old) (λ n. RoseBy n (g.T.Timer.granted_count c.args.timer.now) (g.T.Timer.granted_count c.answered.new.timer)) _ _ c.answered.ensures.printed c.answered.ensures.stopped c.answered.ensures.ended

pub returns-clause-granted : goal.returns-clause-granted
returns-clause-granted g c =
    let circuit = seen g.C.Source.left g.C.Source.faults c.args.circuit.now c.answered.new.circuit in
    let bits = seen g.B.Source.left g.B.Source.faults c.args.bits.now c.answered.new.bits in
    let out = seen g.O.Sink.held g.O.Sink.faults c.args.out.now c.answered.new.out in
    λ o j a done. (whole_asked _ circuit bits out (g.D.Disk.face c.args.disk.now) (g.D.Disk.face c.answered.new.disk) (g.F.Disk.face c.args.old.now) (λ n. RoseBy n (g.T.Timer.granted_count c.args.timer.now) (g.T.Timer.granted_count c.answered.new.timer)) _ c.answered.ensures.ended o j a done).run.granted
