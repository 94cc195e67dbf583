-- Each derivation whose rest can't go on it is a reading, so no tokens have two.
use Rattle.ldscript_terms.proofs.Common.{Expr, Lexeme, List, Question, suc, sym, zero, ℕ}
use Rattle.ldscript_terms.specs.Grammar.{Sign, Level, Primary, Arguments, Within, Whole, Spells, number, dot, name}
use Rattle.ldscript_terms.specs.Grammar.{group, of_region, of_section, align, one_argument, two_arguments, primary}
use Rattle.ldscript_terms.specs.Grammar.{unary, operand, binary, operators, choice}
use Rattle.ldscript_terms.specs.Reading.{Stops, Reading, OneTree, OneReading}
use Rattle.ldscript_terms.proofs.Readings.{SoFar, Lacks, primary_begins_no_unary, number_reading, dot_reading}
use Rattle.ldscript_terms.proofs.Readings.{name_reading}
use Rattle.ldscript_terms.proofs.Readings.{group_reading, of_region_reading, of_section_reading, align_reading}
use Rattle.ldscript_terms.proofs.Readings.{one_reading}
use Rattle.ldscript_terms.proofs.Readings.{two_reading, unary_reading, primary_reading, lower_stops, operator_stops}
use Rattle.ldscript_terms.proofs.Readings.{operator_goes_on, level_start, level_end, level_step, within_stops_at}
use Rattle.ldscript_terms.proofs.Readings.{whole_stops_before, whole_stops, question_goes_on, operators_reading}
use Rattle.ldscript_terms.proofs.Readings.{choice_reading}

-- what a derivation says beside itself
abbrev Known : Level → Expr → List Lexeme → List Lexeme → Type 0
Known Primary e ts rest = Reading Primary ts e rest
Known Arguments e ts rest = Reading Arguments ts e rest
Known (Within zero) e ts rest = Reading (Within 0) ts e rest
Known (Within (suc n)) e ts rest = Stops (Within n) rest → SoFar n ts e rest
Known Whole e ts rest = Stops Whole rest → Reading Whole ts e rest

reading_within : (n : ℕ) (e : Expr) (ts rest : List Lexeme) → Known (Within n) e ts rest → Stops (Within n) rest
    → Reading (Within n) ts e rest
reading_within zero e ts rest k s = k
reading_within (suc n) e ts rest k s = level_end (k (lower_stops n rest s)) (λ op us b. operator_goes_on b s)

lacks_question : (rest : List Lexeme) → Stops Whole rest → Lacks rest (Sign Question)
lacks_question rest s us b = question_goes_on b s

known : {l : Level} {e : Expr} {ts rest : List Lexeme} → Spells l e ts rest → Known l e ts rest
known (number b small) = number_reading b small
known (dot b) = dot_reading b
known (name b) = name_reading b
known (group b d c) = group_reading b (known d (whole_stops_before c tt)) c
known (of_region b m) = of_region_reading b m
known (of_section b m) = of_section_reading b m
known (align b d) = align_reading b (known d)
known (one_argument b d c) = one_reading b (known d (whole_stops_before c tt)) c
known (two_arguments b d m d2 c) =
    two_reading b (known d (whole_stops_before m tt)) m (known d2 (whole_stops_before c tt)) c
known (primary d) = primary_reading (λ op us b. primary_begins_no_unary b d) (known d)
known (unary b d) = unary_reading b (known d)
known (operand {n = n} {expression = e} {ts = ts} {rest = rest} d) =
    λ s. level_start (reading_within n e ts rest (known d) s)
known (binary {n = n} {b = e} {vs = vs} {rest = rest} d o d2) = λ s. level_step (known d (operator_stops o)) o
    (reading_within n e vs rest (known d2) s)
known (operators {expression = e} {ts = ts} {rest = rest} d) = λ s. operators_reading
    (reading_within 9 e ts rest (known d) (whole_stops 9 rest s)) (lacks_question rest s)
known (choice {test = e} {ts = ts} {us = us} d q d2 c d3) = λ s. choice_reading
    (reading_within 9 e ts us (known d) (within_stops_at 9 q tt)) q (known d2 (whole_stops_before c tt)) c (known d3 s)

pub one_reading_of : (ts : List Lexeme) → OneReading ts
one_reading_of ts e rest d s = known d s

pub one_tree_of : (ts : List Lexeme) → OneTree ts
one_tree_of ts e f rest end d d2 s s2 =
    let reading = one_reading_of ts e rest d s in
    let same = reading.only f end d2 s2 in
    (sym same.0, sym same.1)
