use Rattle.qh_prefix.proofs.RunLemmas.{turn_one, turn_two, turn_first, turn_second}
use Rattle.qh_prefix.proofs.run.turn_of.Goals as goal

pub returns-in-OnOne-clause-operation : goal.returns-in-OnOne-clause-operation
returns-in-OnOne-clause-operation c =
    turn_one c.args.term c.args.gate.now c.in-OnOne.kind c.in-OnOne.qubit c.matrix1.result.rows c.in-OnOne.is c.matrix1.ensures

pub returns-in-OnTwo-clause-operation : goal.returns-in-OnTwo-clause-operation
returns-in-OnTwo-clause-operation c =
    turn_two c.args.term c.args.gate.now c.in-OnTwo.kind c.in-OnTwo.first c.in-OnTwo.second c.matrix2.result.rows c.in-OnTwo.is c.matrix2.ensures

pub returns-in-FirstHere-clause-operation : goal.returns-in-FirstHere-clause-operation
returns-in-FirstHere-clause-operation c =
    turn_first c.args.term c.args.gate.now c.in-FirstHere.kind c.in-FirstHere.qubit c.first_factor.result.rows c.in-FirstHere.is c.first_factor.ensures

pub returns-in-SecondHere-clause-operation : goal.returns-in-SecondHere-clause-operation
returns-in-SecondHere-clause-operation c =
    turn_second c.args.term c.args.gate.now c.in-SecondHere.kind c.in-SecondHere.qubit c.second_factor.result.rows c.in-SecondHere.is c.second_factor.ensures
