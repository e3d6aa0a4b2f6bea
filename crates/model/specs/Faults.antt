-- The number, the layer and the two places of every fault; a missing place is 0.
--   code         what is reported: a number, a layer and two places
--   code_of      what is reported of a fault
--   fault_text   how a fault is printed
use Rattle.model.specs.declared.fault.Fault.{Fault}
use Rattle.model.specs.declared.fault.Fault.TheVariants.{TextTooLong, TextNotEnded, Malformed, OutOfRange, TooManyLines, TooManyRegular, HyperperiodTooLong, PairTooLong, NoOffsets, DeadlineTooShort, Overload, Missed, Unsettled, ClockAtEnd, NoJob, NoSuchLine, RegularLine, RestAsItIs, BufferTooSmall, NoMemory}
use Rattle.model.specs.declared.fault.FaultCode.{FaultCode}
use Rattle.std.specs.Prelude.{ℕ, List, ◌∷◌, ◌++◌, codes, decimal}

abbrev pub code : ℕ → ℕ → ℕ → ℕ → FaultCode
code n l p q = record { number = n; layer = l; first = p; second = q }

abbrev pub code_of : Fault → FaultCode
-- layer 1, the sheet's writer
code_of TextTooLong = code 11 1 0 0
code_of TextNotEnded = code 12 1 0 0
code_of (Malformed line field) = code 13 1 line field
code_of (OutOfRange line field) = code 14 1 line field
code_of (TooManyLines line) = code 15 1 line 0
code_of (TooManyRegular line) = code 16 1 line 1
-- layer 2, planning
code_of (HyperperiodTooLong line) = code 20 2 line 0
code_of (PairTooLong i j) = code 21 2 i j
code_of NoOffsets = code 22 2 0 0
code_of (DeadlineTooShort line) = code 23 2 line 0
-- layer 3, rehearsal
code_of Overload = code 25 3 0 0
code_of (Missed instant line) = code 26 3 instant line
code_of Unsettled = code 27 3 0 0
-- layer 4, the firmware
code_of (ClockAtEnd clock) = code 31 4 clock 0
code_of NoJob = code 32 4 0 0
code_of (NoSuchLine number) = code 33 4 number 0
code_of (RegularLine line) = code 34 4 line 0
code_of (RestAsItIs line) = code 35 4 line 0
-- layer 5, the surrounding program
code_of BufferTooSmall = code 41 5 1024 0
code_of NoMemory = code 0 5 0 0

-- The word `fault` and the four figures, a space before each.
abbrev pub fault_text : Fault → List ℕ
fault_text f = let c : FaultCode = code_of f in
    codes "fault" ++ 32 ∷ decimal c.number ++ 32 ∷ decimal c.layer ++ 32 ∷ decimal c.first ++ 32 ∷ decimal c.second
