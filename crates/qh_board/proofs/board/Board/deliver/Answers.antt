use Rattle.qh_board.proofs.DiskLemmas.{serves_same}
use Rattle.qh_board.proofs.board.Board.deliver.Goals as goal

pub returns-in-Some-clause-disk : goal.returns-in-Some-clause-disk
returns-in-Some-clause-disk g c = serves_same g.D.Disk.face g.D.Disk.loans c.args.self.now.job c.args.self.now.journal.disk

pub returns-then-not-same-clause-disk : goal.returns-then-not-same-clause-disk
returns-then-not-same-clause-disk g c = serves_same g.D.Disk.face g.D.Disk.loans c.args.self.now.job c.args.self.now.journal.disk

pub returns-then-eq-clause-disk : goal.returns-then-eq-clause-disk
returns-then-eq-clause-disk g c = serves_same g.D.Disk.face g.D.Disk.loans c.args.self.now.job c.args.self.now.journal.disk
