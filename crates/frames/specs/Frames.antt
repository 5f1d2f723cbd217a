-- 01, Slow control, and 02, g and i: "Our frames are 28 bytes, without a header".
use Rattle.std.specs.Prelude.{ℕ, List, [], ◌∷◌, ◌++◌, take, replicate}
use Rattle.words.specs.Words.{bytes_of}
use Rattle.crc.specs.Crc.{crc, frame_start}
use Rattle.configuration.specs.Configuration.{address_of}
use Rattle.configuration.specs.declared.Settings.{Settings}
use Rattle.frames.specs.declared.Code.{Code}
use Rattle.frames.specs.declared.Code.TheVariants.{Dacs, Enables, Prescaling, Ping, Rates}

-- "Code 1 carries the five DACs, 2 the four enables, 3 the prescaling, 4 pings"; 02, i: "a rate pass .. with code 5"
abbrev pub code_of : Code → ℕ
code_of Dacs = 1
code_of Enables = 2
code_of Prescaling = 3
code_of Ping = 4
code_of Rates = 5

-- 02, i, of a frame that asks for rates: "we send zero data"
abbrev pub words_for : Code → Settings → List ℕ
words_for Dacs s = s.dacs
words_for Enables s = s.enables
words_for Prescaling s = s.prescaling ∷ []
words_for Ping s = []
words_for Rates s = []

-- n numbers: those of a list, then zeros
abbrev pub padded : ℕ → List ℕ → List ℕ
padded n l = take n (l ++ replicate n 0)

-- "0 is 0x40; 1 destination; 2 sender; 3 firmware; 4 code; 5 to 25 data; 26 CRC errors", where "ours is 192" and "we send zero in 3, 26 and
-- unused data". "Data words stand from byte 5 in the order of the configuration, two bytes each, high first"
abbrev pub without_crc : ℕ → ℕ → List ℕ → List ℕ
without_crc address code w = 0x40 ∷ address ∷ 192 ∷ 0 ∷ code ∷ padded 21 (bytes_of w) ++ (0 ∷ [])

-- "27 the CRC of 0 to 26"; 02, g: "Slow-control frames stay at 0x00"
unfoldable pub frame_with : ℕ → ℕ → List ℕ → List ℕ
frame_with address code w = without_crc address code w ++ (crc frame_start (without_crc address code w) ∷ [])

-- the frame of a code to board b of crate c
abbrev pub frame_of : ℕ → ℕ → Code → Settings → List ℕ
frame_of c b code s = frame_with (address_of c b) (code_of code) (words_for code s)
