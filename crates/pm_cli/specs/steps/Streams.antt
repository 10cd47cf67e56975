-- What the code that reads, writes and tells does to the streams.
use Rattle.std.specs.Prelude.{◌≡◌, ℕ, ◌<◌, ◌≤◌, ◌⊎◌, List, [], ◌++◌, length, take, Option, Some, Result, Ok, Err, Vec}
use Rattle.std.specs.declared.alloc.Global.{Global}
use Rattle.pm_io.specs.declared.TheConstants.{MAX_BYTES}
use Rattle.pm_io.specs.Bytes.{added}
use Rattle.pm_io.specs.Faults.{FaultsRose}
use Rattle.pm_cli.specs.declared.refusal.Limit.TheVariants.{Bytes}
use Rattle.pm_cli.specs.declared.refusal.Refusal.{Refusal}
use Rattle.pm_cli.specs.declared.refusal.Refusal.TheVariants.{Limited}
use Rattle.pm_cli.specs.declared.refusal.Stop.{Stop}
use Rattle.pm_cli.specs.declared.refusal.Stop.TheVariants.{Refused, Read, Write, Memory}

-- all that the input held was read, within the limit, and it didn't fail
pub record HasRead (old new : Option (List ℕ)) (faults_old faults_new : ℕ) (bytes : List ℕ) : Type 0 where
  pub within : length bytes ≤ MAX_BYTES
  pub whole : (left : List ℕ) → old ≡ Some left → (bytes ≡ left) × (new ≡ Some [])
  pub calm : faults_new ≡ faults_old

-- the input holds more than the limit, and it didn't fail
pub record IsOverLimit (old : Option (List ℕ)) (faults_old faults_new : ℕ) : Type 0 where
  pub over : (left : List ℕ) → old ≡ Some left → MAX_BYTES < length left
  pub calm : faults_new ≡ faults_old

-- the input was read whole, or why not
abbrev pub IsReading : Option (List ℕ) → Option (List ℕ) → ℕ → ℕ → Result (Vec ℕ Global) Stop → Type 0
IsReading old new faults_old faults_new (Ok bytes) = HasRead old new faults_old faults_new bytes.items
IsReading old new faults_old faults_new (Err Read) = FaultsRose faults_old faults_new
IsReading old new faults_old faults_new (Err Memory) = faults_new ≡ faults_old
IsReading old new faults_old faults_new (Err (Refused (Limited Bytes))) = IsOverLimit old faults_old faults_new
IsReading old new faults_old faults_new (Err stop) = ⊥

-- the text was written whole, or a prefix of it
abbrev pub IsWriting : List ℕ → Option (List ℕ) → Option (List ℕ) → ℕ → ℕ → Result (Unit {0}) Stop → Type 0
IsWriting text old new faults_old faults_new (Ok done) = (new ≡ added old text) × (faults_new ≡ faults_old)
IsWriting text old new faults_old faults_new (Err Write) = ((n : ℕ) × (new ≡ added old (take n text))) × FaultsRose faults_old faults_new
IsWriting text old new faults_old faults_new (Err stop) = ⊥

-- a text of the one kind was added
pub record HasAdded (text_is : List ℕ → Type 0) (old new : Option (List ℕ)) : Type 0 where
  pub text : List ℕ
  pub holds : text_is text
  pub written : new ≡ added old text

-- the first n bytes of a text of that kind were added
pub record HasAddedPrefix (text_is : List ℕ → Type 0) (old new : Option (List ℕ)) : Type 0 where
  pub text : List ℕ
  pub holds : text_is text
  pub prefix : ℕ
  pub written : new ≡ added old (take prefix text)

-- a text of the first kind was added, and it is a prefix of a text of the second
pub record HasAddedFirst (first all : List ℕ → Type 0) (old new : Option (List ℕ)) : Type 0 where
  pub begun : List ℕ
  pub records : first begun
  pub rest : List ℕ
  pub holds : all (begun ++ rest)
  pub written : new ≡ added old begun

-- all records of an answer were written, or a prefix of them where the output failed, or nothing or the first ones where
-- memory was wanting, or nothing where the answer is a refusal
abbrev pub IsWritingRecords : (Result (List ℕ) Refusal → Type 0) → (List ℕ → Type 0) → Option (List ℕ) → Option (List ℕ) → ℕ → ℕ → Result (Unit {0}) Stop → Type 0
IsWritingRecords answers first old new faults_old faults_new (Ok done) = HasAdded (λ text. answers (Ok text)) old new × (faults_new ≡ faults_old)
IsWritingRecords answers first old new faults_old faults_new (Err Write) = HasAddedPrefix (λ text. answers (Ok text)) old new × FaultsRose faults_old faults_new
IsWritingRecords answers first old new faults_old faults_new (Err Memory) = ((new ≡ old) ⊎ HasAddedFirst first (λ text. answers (Ok text)) old new) × (faults_new ≡ faults_old)
IsWritingRecords answers first old new faults_old faults_new (Err (Refused refusal)) = answers (Err refusal) × (new ≡ old) × (faults_new ≡ faults_old)
IsWritingRecords answers first old new faults_old faults_new (Err Read) = ⊥

-- what is told of a stop: the stop itself, or want of memory in place of a refusal
abbrev pub IsToldFor : Stop → Stop → Type 0
IsToldFor (Refused refusal) told = (told ≡ Refused refusal) ⊎ (told ≡ Memory)
IsToldFor Read told = told ≡ Read
IsToldFor Write told = told ≡ Write
IsToldFor Memory told = told ≡ Memory
