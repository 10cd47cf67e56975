-- Texts that are written record by record.
use Rattle.std.specs.Prelude.{◌≡◌, ℕ, zero, suc, ◌≤◌, List, [], ◌++◌}

-- a text of the one kind, and after it one of the other
pub record IsJoined (first last : List ℕ → Type 0) (text : List ℕ) : Type 0 where
  pub prefix : List ℕ
  pub is_prefix : first prefix
  pub back : List ℕ
  pub is_back : last back
  pub whole : text ≡ prefix ++ back

-- so many records, one after another, each of the kind of its place
unfoldable pub AreRecords : (ℕ → List ℕ → Type 0) → ℕ → List ℕ → Type 0
AreRecords is_record zero text = text ≡ []
AreRecords is_record (suc count) text = IsJoined (AreRecords is_record count) (is_record count) text

-- the first of so many records, any number of them
pub record HasFirstRecords (is_record : ℕ → List ℕ → Type 0) (count : ℕ) (text : List ℕ) : Type 0 where
  pub records : ℕ
  pub within : records ≤ count
  pub are_records : AreRecords is_record records text

-- a law: first records are a prefix of more of them, since each place has a record
abbrev pub RecordsGoOn : (ℕ → List ℕ → Type 0) → Type 0
RecordsGoOn is_record =
    (fewer more : ℕ) (text : List ℕ) → fewer ≤ more → AreRecords is_record fewer text → (rest : List ℕ) × AreRecords is_record more (text ++ rest)
