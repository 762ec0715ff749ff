-- "Where an answer is an enum, a definition sets out this paper's number and values for each of its cases."
use Rattle.std.specs.Prelude.{ℕ, Result, Ok, Err}
use Rattle.layout.specs.declared.refusal.Refusal.{Refusal}
use Rattle.layout.specs.declared.refusal.Refusal.TheVariants.{BookUnusable, NotARecord, NotInBook, UnusedByte, NoKind, Clock, Notice, Capability, NotRegistered, Period, OutOfRange, Blank, PricesDontRise, Ramp, Proportion, AboveCapacity, GateClosed, Duplicate, NothingInForce, Opening, Date}

-- Document 01, "Who draws which number", and document 02's 21.
abbrev pub number : Refusal → ℕ
number BookUnusable = 1
number NotARecord = 2
number NotInBook = 3
number UnusedByte = 4
number NoKind = 5
number Clock = 6
number Notice = 7
number Capability = 8
number NotRegistered = 9
number Period = 10
number OutOfRange = 11
number Blank = 12
number PricesDontRise = 13
number Ramp = 14
number Proportion = 15
number AboveCapacity = 16
number GateClosed = 17
number Duplicate = 18
number NothingInForce = 19
number Opening = 20
number Date = 21

-- The number that a test or a call draws, 0 where it draws none.
abbrev pub drawn : {T : Type 0} → Result T Refusal → ℕ
drawn (Ok _) = 0
drawn (Err refusal) = number refusal
