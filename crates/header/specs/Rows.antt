-- The rows of the header, each once: its bits in the words of the paper, words and bits counted from 1. A reviewer holds this
-- page beside the table of words. FORMAT, "The record". A row's value in the bytes b is `value_of year b`.
use Rattle.fields.specs.declared.Field.{Field}
use Rattle.fields.specs.Field.{word◌, word◌bits◌to◌, word◌bit◌until◌bit◌, empty-before-word◌, bcd, signed}

-- ## words 1 to 5: flags, numbers of tape and record, length, front end areas (FEA), spacecraft and station

abbrev pub clock_origin : Field
clock_origin = word 1 bits 1 to 1

abbrev pub session_start : Field
session_start = word 1 bits 2 to 2

abbrev pub copy_error : Field
copy_error = word 1 bits 3 to 3

abbrev pub conversion : Field
conversion = word 1 bits 4 to 4

abbrev pub compression : Field
compression = word 1 bits 5 to 8

abbrev pub tape_number : Field
tape_number = word 1 bits 9 to 16

abbrev pub record_number : Field
record_number = word 2

abbrev pub length_words : Field
length_words = word 3

abbrev pub prime_fea : Field
prime_fea = word 4 bits 1 to 8

abbrev pub secondary_fea : Field
secondary_fea = word 4 bits 9 to 16

abbrev pub spacecraft : Field
spacecraft = word 5 bits 1 to 8

abbrev pub spc : Field
spc = word 5 bits 9 to 16

-- ## words 6 to 8: time; time tags are in milliseconds of the day

abbrev pub year : Field
year = word 6 bits 1 to 7

abbrev pub day : Field
day = word 6 bits 8 to 16

abbrev pub time_tag : Field
time_tag = word 7 bit 6 until 8 bit 16

-- ## words 9 to 13: the ten characters of the predict set

abbrev pub predict0 : Field
predict0 = word 9 bits 1 to 8

abbrev pub predict1 : Field
predict1 = word 9 bits 9 to 16

abbrev pub predict2 : Field
predict2 = word 10 bits 1 to 8

abbrev pub predict3 : Field
predict3 = word 10 bits 9 to 16

abbrev pub predict4 : Field
predict4 = word 11 bits 1 to 8

abbrev pub predict5 : Field
predict5 = word 11 bits 9 to 16

abbrev pub predict6 : Field
predict6 = word 12 bits 1 to 8

abbrev pub predict7 : Field
predict7 = word 12 bits 9 to 16

abbrev pub predict8 : Field
predict8 = word 13 bits 1 to 8

abbrev pub predict9 : Field
predict9 = word 13 bits 9 to 16

-- ## words 14 to 25: frequencies, in microhertz, each with the time of day, in milliseconds, that it is of

abbrev pub status : Field
status = word 14 bits 1 to 8

abbrev pub readback : Field
readback = bcd (word 14 bit 9 until 17 bit 16)

abbrev pub readback_tag : Field
readback_tag = word 18 bit 6 until 19 bit 16

abbrev pub calculated : Field
calculated = bcd (word 20 bit 9 until 23 bit 16)

abbrev pub update_tag : Field
update_tag = word 24 bit 6 until 25 bit 16

-- ## words 26 and 27: the frequency rate, by its five digits, its power and its sign bit

abbrev pub frequency_rate_digits : Field
frequency_rate_digits = bcd (word 26 bit 9 until 27 bit 12)

abbrev pub frequency_rate_power : Field
frequency_rate_power = word 27 bits 13 to 15

abbrev pub frequency_rate_sign : Field
frequency_rate_sign = word 27 bits 16 to 16

-- ## words 28 to 36: phase counts, the four selectors (TEST SIGNAL, SAMPLE CONTROL, COUNTER 1 and COUNTER 2 MODE), and the time of day
-- of the counts, in milliseconds

abbrev pub phase1 : Field
phase1 = word 28 bit 1 until 30 bit 16

abbrev pub phase2 : Field
phase2 = word 31 bit 1 until 33 bit 16

abbrev pub selector1 : Field
selector1 = word 34 bits 1 to 4

abbrev pub selector2 : Field
selector2 = word 34 bits 5 to 8

abbrev pub selector3 : Field
selector3 = word 34 bits 9 to 12

abbrev pub selector4 : Field
selector4 = word 34 bits 13 to 16

abbrev pub counter_tag : Field
counter_tag = word 35 bit 6 until 36 bit 16

-- ## own to 1985: the filter of word 24, and words 37 to 40: word 39 is the '24' COUNTER and the 'N' REGISTER, word 40 the CONVERSION
-- MODE and the SIGNAL SELECT REGISTER

abbrev pub filter : Field
filter = word 24 bits 1 to 4

abbrev pub sample_rate1985 : Field
sample_rate1985 = word 37

abbrev pub sync1985 : Field
sync1985 = word 38

abbrev pub word39 : Field
word39 = word 39

abbrev pub register1 : Field
register1 = word 40 bits 1 to 8

abbrev pub register2 : Field
register2 = word 40 bits 9 to 16

-- its table has two places more than it has fields
abbrev pub empty1985 : Field
empty1985 = empty-before-word 41

-- ## own to 1992: the antenna's RF configuration in word 26, the predict set's offsets, and words 80 and 81

abbrev pub rf_configuration : Field
rf_configuration = word 26 bits 1 to 2

abbrev pub rf_configuration_reported : Field
rf_configuration_reported = word 26 bits 3 to 4

abbrev pub time_offset_days : Field
time_offset_days = word 37 bits 1 to 9

abbrev pub time_offset_sign : Field
time_offset_sign = word 37 bits 15 to 15

abbrev pub time_offset_seconds : Field
time_offset_seconds = word 37 bit 16 until 38 bit 16

abbrev pub frequency_offset : Field
frequency_offset = signed (word 39 bit 1 until 41 bit 16)

abbrev pub sample_rate1992 : Field
sample_rate1992 = word 80

abbrev pub sync1992 : Field
sync1992 = word 81
