-- The worked run, computed on the book of 16,224 words and on the list machine.
use mathlib.Core.Path.{refl}
use Rattle.cases.specs.WorkedRun.{RunOfBook, RunOfList}
use Rattle.cases.proofs.Computes.{computes}

pub run_of_book : RunOfBook
unfolding computes RunOfBook
run_of_book = refl

pub run_of_list : RunOfList
unfolding computes RunOfList
run_of_list = refl
