use Rattle.std.proofs.Common.{◌≡◌, ap, subst, ◌∙◌}
use Rattle.std.specs.Prelude.{IfSome}
use Rattle.std.specs.Option.{ForSome}
use Rattle.qh_plan.specs.Jobs.{Job}
use Rattle.qh_disk.specs.Disk.{Reads}
use Rattle.qh_slots.specs.Moments.{GoesOn}
use Rattle.qh_board.specs.Board.{BeganWith}
use Rattle.qh_run.specs.Ends.{answer_of}
use Rattle.qh_run.specs.Carrying.{Completes}
use Rattle.qh_run.proofs.CarryLemmas.{answer_leaves}
use Rattle.qh_run.proofs.CompleteLemmas.{began_on, began_tally}
use Rattle.qh_run.proofs.rest.finish.Goals as goal

pub returns-in-Ok-clause-cause : goal.returns-in-Ok-clause-cause
returns-in-Ok-clause-cause g c = answer_leaves g.D.Disk.face c.args.board.now.journal.disk c.sweep_all-ran.new.board.journal.disk c.in-Ok.end c.in-Ok.ensures.answers

pub returns-in-Ok-clause-whole : goal.returns-in-Ok-clause-whole
returns-in-Ok-clause-whole g c s0 began =
    let shared = c.new_share-share.new.self in
    let began_shared : BeganWith shared s0 = began_tally c.args.board.now shared _ s0 c.new_share-share.ensures.board began in
    subst (λ j. IfSome (answer_of c.in-Ok.end) (Completes g.D.Disk.face j s0 c.sweep_all-ran.new.board.journal.disk)) (ap (λ b. b.job) c.new_share-share.ensures.board)
    (c.in-Ok.ensures.whole s0 began_shared)

pub returns-in-Ok-clause-goes_on : goal.returns-in-Ok-clause-goes_on
returns-in-Ok-clause-goes_on g c s0 began =
    let shared = c.new_share-share.new.self in
    let after = c.sweep_all-ran.new.board in
    let carries = c.sweep_all-ran.ensures.carries in
    let began_shared : BeganWith shared s0 = began_tally c.args.board.now shared _ s0 c.new_share-share.ensures.board began in
    let job : after.job ≡ c.args.board.now.job = carries.job ∙ ap (λ b. b.job) c.new_share-share.ensures.board in
    subst (λ j. ForSome after.journal.disk (λ e. Reads (g.D.Disk.face e) (GoesOn j s0))) job
    (c.finished.ensures.valid.reads s0 (began_on g.D.Disk.face g.D.Disk.loans shared after s0 carries began_shared))

pub returns-in-Err-Disk-clause-goes_on : goal.returns-in-Err-Disk-clause-goes_on
returns-in-Err-Disk-clause-goes_on g c s0 began =
    let shared = c.new_share-share.new.self in
    let after = c.sweep_all-ran.new.board in
    let carries = c.sweep_all-ran.ensures.carries in
    let began_shared : BeganWith shared s0 = began_tally c.args.board.now shared _ s0 c.new_share-share.ensures.board began in
    let job : after.job ≡ c.args.board.now.job = carries.job ∙ ap (λ b. b.job) c.new_share-share.ensures.board in
    subst (λ j. ForSome after.journal.disk (λ e. Reads (g.D.Disk.face e) (GoesOn j s0))) job
    (c.finished.ensures.valid.reads s0 (began_on g.D.Disk.face g.D.Disk.loans shared after s0 carries began_shared))

pub returns-clause-goes_on : goal.returns-clause-goes_on
returns-clause-goes_on g c s0 began =
    let shared = c.new_share-share.new.self in
    let after = c.sweep_all-ran.new.board in
    let carries = c.sweep_all-ran.ensures.carries in
    let began_shared : BeganWith shared s0 = began_tally c.args.board.now shared _ s0 c.new_share-share.ensures.board began in
    let job : after.job ≡ c.args.board.now.job = carries.job ∙ ap (λ b. b.job) c.new_share-share.ensures.board in
    subst (λ j. ForSome after.journal.disk (λ e. Reads (g.D.Disk.face e) (GoesOn j s0))) job
    (c.finished.ensures.valid.reads s0 (began_on g.D.Disk.face g.D.Disk.loans shared after s0 carries began_shared))
