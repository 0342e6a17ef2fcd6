-- What is found at a place, and what a reader reads there, by the code's answer.
use Rattle.std.specs.Prelude.{ℕ, List, Option, Some, None, Result, Ok, Err}
use Rattle.std.specs.Borrow.{Bor}
use Rattle.answers.specs.declared.Refusal.{Refusal}
use Rattle.answers.specs.Refused.{number_of}
use Rattle.reel.specs.Reel.{Found, accepted, finished, refused}
use Rattle.reel.specs.declared.Span.{Span}

abbrev pub shown_step : Result (Option Span) Refusal → Found
shown_step (Ok (Some r)) = accepted r.start r.end
shown_step (Ok None) = finished
shown_step (Err r) = refused (number_of r)

abbrev pub shown_bytes : Option (Bor (List ℕ)) → Option (List ℕ)
shown_bytes (Some bytes) = Some bytes.now
shown_bytes None = None
