-- Values worked by hand: what the definitions give beside what the customer's scope document says. FORMAT, "Cases worked by
-- hand".
use Rattle.std.specs.Prelude.{ℕ, List, [], ◌∷◌, ◌++◌, ℤ, pos, neg_ℤ}
use Rattle.fields.specs.declared.Field.{Field}
use Rattle.fields.specs.Table.{value_in}
use Rattle.header.specs.Edition.{fields_of}
use Rattle.header.specs.Rows.{readback, time_offset_sign, time_offset_seconds, frequency_offset}
use Rattle.answers.specs.Answer.{Answer}
use Rattle.record.specs.Record.{record_refusal, header_answer}
use Rattle.frequency_rate.specs.FrequencyRate.{frequency_rate_answer}
use Rattle.channels.specs.Sample.{signed_of}
use Rattle.totals.specs.declared.Total.{Total}
use Rattle.totals.specs.Total.{total_of}
use Rattle.times.specs.SampleTime.{from_tag, time_answer}
use Rattle.worked_cases.specs.Bytes.{Word, ◌is◌, bytes_from}

-- the record of the lister's case: 390 words, zero but for these (hex 8101, 0001, 0186, AC18, 0293, 2E00, 4200, 0012, 3452,
-- 00C8, A55A); words named before them stand instead
abbrev pub case_words : List Word
case_words =
    1 is 33025
    ∷ 2 is 1
    ∷ 3 is 390
    ∷ 6 is 44056
    ∷ 7 is 659
    ∷ 8 is 11776
    ∷ 16 is 16896
    ∷ 26 is 18
    ∷ 27 is 13394
    ∷ 37 is 200
    ∷ 38 is 42330
    ∷ []

abbrev pub case_with : List Word → List ℕ
case_with ws = bytes_from (ws ++ case_words) 1 390

-- a record of 2190 words at 50,000 samples a second, with time tag 1
abbrev pub fast_record : List ℕ
fast_record = bytes_from (3 is 2190 ∷ 7 is 0 ∷ 8 is 1 ∷ 37 is 50000 ∷ case_words) 1 2190

-- a record of 1992 of 283 words at 200 samples a second: conversion bit 1, the rate in word 80 and the sync word in word 81
abbrev pub words1992 : List Word
words1992 =
    1 is 37121
    ∷ 2 is 1
    ∷ 3 is 283
    ∷ 6 is 44056
    ∷ 80 is 200
    ∷ 81 is 42330
    ∷ []

abbrev pub in1992 : List Word → List ℕ
in1992 ws = bytes_from (ws ++ words1992) 1 283

-- one of 1333 words at 31,250 samples a second, with time tag 1
abbrev pub fast1992 : List ℕ
fast1992 = bytes_from (3 is 1333 ∷ 8 is 1 ∷ 80 is 31250 ∷ words1992) 1 1333

-- what a definition gives, and what it should: a refusal number first, then the value
pub record Case : Type 0 where
  pub gives : List ℤ
  pub says : List ℤ

infixl 68 ◌against◌
abbrev pub ◌against◌ : List ℤ → List ℤ → Case
g against s = record { gives = g; says = s }

-- the refusal number and the value of an answer
abbrev pub shownℤ : Answer ℤ → List ℤ
shownℤ a = pos a.number ∷ a.value ∷ []

-- the refusal number and the value of a field of the header
abbrev pub shown_field : ℕ → Field → List ℕ → List ℤ
shown_field n f b = pos (header_answer n b).number ∷ pos (value_in (fields_of n) (header_answer n b).value f) ∷ []

-- sum, squares, least, greatest and clipped samples
abbrev pub shown_total : Total → List ℤ
shown_total t = t.sum ∷ pos t.squares ∷ t.least ∷ t.greatest ∷ pos t.clipped ∷ []

-- both sides of a case
abbrev pub given : Case → List ℤ
given c = c.gives

abbrev pub said : Case → List ℤ
said c = c.says

abbrev pub cases : List Case
cases =
    -- frequency rates: words 26 and 27 hex 0012 3452, 0012 3457, 0012 3451, 0000 0000
    (shownℤ (frequency_rate_answer 1985 (case_with (27 is 13394 ∷ []))) against (pos 0 ∷ neg_ℤ (pos 123450) ∷ []))
    ∷ (shownℤ (frequency_rate_answer 1985 (case_with (27 is 13399 ∷ []))) against (pos 0 ∷ pos 12345000 ∷ []))
    ∷ (shownℤ (frequency_rate_answer 1985 (case_with (27 is 13393 ∷ []))) against (pos 0 ∷ pos 12345 ∷ []))
    ∷ (shownℤ (frequency_rate_answer 1985 (case_with (26 is 0 ∷ 27 is 0 ∷ []))) against (pos 0 ∷ pos 0 ∷ []))
    -- readback digits 00000042000000, fourteen nines, and a digit A
    ∷ (shown_field 1985 readback (case_with []) against (pos 0 ∷ pos 42000000 ∷ []))
    ∷ (shown_field 1985 readback (case_with (14 is 153 ∷ 15 is 39321 ∷ 16 is 39321 ∷ 17 is 39321 ∷ [])) against (pos 0 ∷ pos 99999999999999 ∷ []))
    ∷ (shown_field 1985 readback (case_with (17 is 10 ∷ [])) against (pos 10 ∷ pos 0 ∷ []))
    -- time tags 86,399,999 and 86,400,000 (hex 0526 5BFF and 0526 5C00)
    ∷ ((pos (record_refusal 1985 (case_with (7 is 1318 ∷ 8 is 23551 ∷ []))) ∷ []) against (pos 0 ∷ []))
    ∷ ((pos (record_refusal 1985 (case_with (7 is 1318 ∷ 8 is 23552 ∷ []))) ∷ []) against (pos 9 ∷ []))
    -- sample times at 50,000 samples a second with time tag 1: the first and the last sample
    ∷ (shownℤ (time_answer 1985 fast_record 0) against (pos 0 ∷ pos 960 ∷ []))
    ∷ (shownℤ (time_answer 1985 fast_record 999) against (pos 0 ∷ pos 20940 ∷ []))
    -- at 200 samples a second with time tag 0, sample 0 on the day before, samples 2 and 3; and sample 0 of the lister's case
    ∷ (shownℤ (time_answer 1985 (case_with (7 is 0 ∷ 8 is 0 ∷ [])) 0) against (pos 0 ∷ neg_ℤ (pos 10000) ∷ []))
    ∷ (shownℤ (time_answer 1985 (case_with (7 is 0 ∷ 8 is 0 ∷ [])) 2) against (pos 0 ∷ pos 0 ∷ []))
    ∷ (shownℤ (time_answer 1985 (case_with (7 is 0 ∷ 8 is 0 ∷ [])) 3) against (pos 0 ∷ pos 5000 ∷ []))
    ∷ (shownℤ (time_answer 1985 (case_with []) 0) against (pos 0 ∷ pos 43199990000 ∷ []))
    -- rounded down where an interval is not whole: samples 0 and 3 at 300 a second, sample 1 at 7
    ∷ ((from_tag 300 0 ∷ from_tag 300 3 ∷ from_tag 7 1 ∷ []) against (neg_ℤ (pos 6667) ∷ pos 3333 ∷ neg_ℤ (pos 142858) ∷ []))
    -- bytes 80, 7F and FF hex
    ∷ ((signed_of 128 ∷ signed_of 127 ∷ signed_of 255 ∷ []) against (neg_ℤ (pos 128) ∷ pos 127 ∷ neg_ℤ (pos 1) ∷ []))
    -- the total of samples 3 and -4; of -128, -127, 126 and 127, two of them clipped
    ∷ (shown_total (total_of (pos 3 ∷ neg_ℤ (pos 4) ∷ [])) against (neg_ℤ (pos 1) ∷ pos 25 ∷ neg_ℤ (pos 4) ∷ pos 3 ∷ pos 0 ∷ []))
    ∷ (shown_total (total_of (neg_ℤ (pos 128) ∷ neg_ℤ (pos 127) ∷ pos 126 ∷ pos 127 ∷ []))
    against (neg_ℤ (pos 2) ∷ pos 64518 ∷ neg_ℤ (pos 128) ∷ pos 127 ∷ pos 2 ∷ []))
    -- ## of 1992, from its own pages

    -- a POCA frequency of hex 41 5624 2167 3152, and the three frequency rates 12 3452, 12 3457 and 12 3451
    ∷ (shown_field 1992 readback (in1992 (14 is 65 ∷ 15 is 22052 ∷ 16 is 8551 ∷ 17 is 12626 ∷ [])) against (pos 0 ∷ pos 41562421673152 ∷ []))
    ∷ (shownℤ (frequency_rate_answer 1992 (in1992 (26 is 18 ∷ 27 is 13394 ∷ []))) against (pos 0 ∷ neg_ℤ (pos 123450) ∷ []))
    ∷ (shownℤ (frequency_rate_answer 1992 (in1992 (26 is 18 ∷ 27 is 13399 ∷ []))) against (pos 0 ∷ pos 12345000 ∷ []))
    ∷ (shownℤ (frequency_rate_answer 1992 (in1992 (26 is 18 ∷ 27 is 13393 ∷ []))) against (pos 0 ∷ pos 12345 ∷ []))
    -- a time offset of -65,536 seconds: bits 15 and 16 of word 37
    ∷ (shown_field 1992 time_offset_sign (in1992 (37 is 3 ∷ [])) against (pos 0 ∷ pos 1 ∷ []))
    ∷ (shown_field 1992 time_offset_seconds (in1992 (37 is 3 ∷ [])) against (pos 0 ∷ pos 65536 ∷ []))
    -- frequency offsets: all ones is -1, and 2^64 - 1 as a number of 64 bits; a lone first bit is -2^47
    ∷ (shown_field 1992 frequency_offset (in1992 (39 is 65535 ∷ 40 is 65535 ∷ 41 is 65535 ∷ [])) against (pos 0 ∷ pos 18446744073709551615 ∷ []))
    ∷ (shown_field 1992 frequency_offset (in1992 (39 is 32768 ∷ [])) against (pos 0 ∷ pos 18446603336221196288 ∷ []))
    -- sample times at 31,250 samples a second with time tag 1: the first and the last sample
    ∷ (shownℤ (time_answer 1992 fast1992 0) against (pos 0 ∷ pos 936 ∷ []))
    ∷ (shownℤ (time_answer 1992 fast1992 624) against (pos 0 ∷ pos 20904 ∷ []))
    -- at 200 samples a second with time tag 0
    ∷ (shownℤ (time_answer 1992 (in1992 []) 0) against (pos 0 ∷ neg_ℤ (pos 10000) ∷ []))
    -- a record of each edition under the other, and under neither
    ∷ ((pos (record_refusal 1992 (case_with [])) ∷ pos (record_refusal 1985 (in1992 [])) ∷ pos (record_refusal 1986 (in1992 [])) ∷ [])
    against (pos 3 ∷ pos 3 ∷ pos 25 ∷ []))
    ∷ []
