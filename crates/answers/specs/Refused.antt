-- A refusal's number, and what a call's result shows: the number of the refusal, 0 for none, and the value. FORMAT, "Refusal
-- numbers".
use Rattle.std.specs.Prelude.{ℕ, Result, Ok, Err}
use Rattle.answers.specs.Answer.{Answer, accepted, refused}
use Rattle.answers.specs.declared.Refusal.{Refusal}
use Rattle.answers.specs.declared.Refusal.TheVariants.{
  TooShort,
  WrongLength,
  Not8Bits,
  Compressed,
  NoSuchRate,
  NotTheRatesLength,
  NumberZero,
  NoSuchDate,
  PastTheDay,
  NoDigit,
  WrongSync,
  NoSuchSample,
  WrongLimits,
  TooFewCells,
  OtherReel,
  NumberOutside,
  SecondOutside,
  SecondFull,
  NotHeld,
  NoSuchSegment,
  TextTooLong,
  ValueTooWide,
  SegmentNotNew,
  InputTooLong,
  NoSuchEdition,
  NoSegments,
  BadCheck,
  WrongBlocks,
}

-- the customer's number of each refusal
abbrev pub number_of : Refusal → ℕ
number_of TooShort = 1
number_of WrongLength = 2
number_of Not8Bits = 3
number_of Compressed = 4
number_of NoSuchRate = 5
number_of NotTheRatesLength = 6
number_of NumberZero = 7
number_of NoSuchDate = 8
number_of PastTheDay = 9
number_of NoDigit = 10
number_of WrongSync = 11
number_of NoSuchSample = 12
number_of WrongLimits = 13
number_of TooFewCells = 14
number_of OtherReel = 15
number_of NumberOutside = 16
number_of SecondOutside = 17
number_of SecondFull = 18
number_of NotHeld = 19
number_of NoSuchSegment = 20
number_of TextTooLong = 21
number_of ValueTooWide = 22
number_of SegmentNotNew = 23
number_of InputTooLong = 24
number_of NoSuchEdition = 25
number_of NoSegments = 26
number_of BadCheck = 27
number_of WrongBlocks = 28

-- the number of a result: 0 where nothing is refused
abbrev pub refusal_in : {A : Type 0} → Result A Refusal → ℕ
refusal_in (Ok v) = 0
refusal_in (Err r) = number_of r

-- the answer that a result is, where the code's value shows this value: beside a refusal's number what is empty
abbrev pub answer_by : {A B : Type 0} → (A → B) → B → Result A Refusal → Answer B
answer_by view empty (Ok v) = accepted (view v)
answer_by view empty (Err r) = refused empty (number_of r)

-- the same, where the value is shown as it is
abbrev pub answer_in : {A : Type 0} → A → Result A Refusal → Answer A
answer_in empty (Ok v) = accepted v
answer_in empty (Err r) = refused empty (number_of r)
