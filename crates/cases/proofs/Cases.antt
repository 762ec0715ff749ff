-- Each row of the table of cases, by computing all of them at once.
use mathlib.Core.Path.{◌≡◌, refl, sym, ◌∙◌, ap, ap₂}
use mathlib.Core.List.{List, map}
use lib.ListN.{get_or, get_or-map}
use Rattle.cases.specs.Cases.{Line, Case, answer_in, first_case, cases, EveryCase, The451stDiffers, Openings, WordsShown, RampsShown, CellWords, NextPeriods}
use Rattle.cases.proofs.Computes.{computes}

all_answered : map answer_in cases ≡ map (λ c. c.answered) cases
unfolding computes answer_in
all_answered = refl

pub every_case : EveryCase
unfolding EveryCase
every_case i =
    sym (get_or-map answer_in cases i first_case)
    ∙ ap₂ (λ (l : List Line) (d : Line). get_or l i d) all_answered (ap (λ (l : List Line). get_or l 0 (answer_in first_case)) all_answered)
    ∙ get_or-map (λ (c : Case). c.answered) cases i first_case

pub words_are_shown : WordsShown
unfolding computes WordsShown
words_are_shown = (refl, refl)

pub ramps_are_shown : RampsShown
unfolding computes RampsShown
ramps_are_shown = refl

pub cell_words : CellWords
unfolding computes CellWords
cell_words = (refl, refl, refl)

pub next_periods : NextPeriods
unfolding computes NextPeriods
next_periods = (refl, refl, refl, refl, refl)

pub the_451st_differs : The451stDiffers
unfolding computes The451stDiffers
the_451st_differs = (refl, refl)

pub openings : Openings
unfolding computes Openings
openings = (refl, refl, refl, refl, refl, refl, refl, refl)
