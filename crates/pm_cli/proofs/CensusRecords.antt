-- Records of a census, and its one answer.
use Rattle.std.proofs.Common.{◌≡◌, ℕ, zero, suc, ◌+◌, ◌≤◌, inl, inr, List, [], ◌∷◌, ◌++◌, take, length, refl, sym, ap, ap₂, ◌∙◌, subst, arith}
use Rattle.std.specs.Prelude.{Option, None, Some, slice_get, codes, decimal, MatchOption, Result, Ok, Err}
use Rattle.std.specs.List.{sum}
use Rattle.std.specs.Map.{keys_of, values_of}
use Rattle.std.proofs.Math.Seq.{take-length}
use Rattle.std.proofs.lemmas.Bool.{cases_lt}
use Rattle.std.proofs.lemmas.List.Sums.{sum_by_more, sum_by_more_le}
use Rattle.std.proofs.lemmas.Map.Entries.{length-keys_of, length-values_of}
use Rattle.std.proofs.lemmas.Option.{slice_get_past, slice_get_within, get_or_from_slice_get}
use Rattle.pm_io.specs.Bytes.{added}
use Rattle.pm_io.specs.Faults.{FaultsRose}
use Rattle.pm_text.specs.Broken.{newline}
use Rattle.pm_map.specs.Canonical.{IsCanonical}
use Rattle.pm_map.specs.Rotation.{RotationSystem}
use Rattle.pm_mapfile.proofs.CanonicalTexts.{canonical_has_text}
use Rattle.pm_class.specs.Sampling.{HasOneSample}
use Rattle.pm_reach.specs.declared.lists.TheConstants.{MOST_LISTS}
use Rattle.pm_reach.specs.declared.counting.CensusRefusal.{CensusRefusal}
use Rattle.pm_reach.specs.declared.counting.CensusRefusal.TheVariants as census
use Rattle.pm_reach.specs.Census.{IsCensus, IsCensusAnswer, product}
use Rattle.pm_reach.specs.CensusLaws.{Stands, HasEachMapOnce}
use Rattle.pm_reach.proofs.OneCensus.{one_census}
use Rattle.pm_reach.proofs.SomeCensus.{some_census}
use Rattle.pm_reach.proofs.StandingMaps.{has_each_map_once}
use Rattle.pm_cli.specs.declared.refusal.Limit.TheVariants.{Lists}
use Rattle.pm_cli.specs.declared.refusal.Refusal.{Refusal}
use Rattle.pm_cli.specs.declared.refusal.Refusal.TheVariants.{Limited}
use Rattle.pm_cli.specs.declared.refusal.Stop.{Stop}
use Rattle.pm_cli.specs.declared.refusal.Stop.TheVariants.{Refused, Read, Write, Memory}
use Rattle.pm_cli.specs.Classes.{AtSize}
use Rattle.pm_cli.specs.Counting.{IsEntryText, total_line, IsCensusRecord, HasFirstEntries, Counts, counted, too_many}
use Rattle.pm_cli.specs.Laws.{IsAnswered}
use Rattle.pm_cli.specs.Records.{AreRecords, HasFirstRecords, RecordsGoOn}
use Rattle.pm_cli.specs.steps.Answering.{stop_of_census}
use Rattle.pm_cli.specs.steps.ClassLaws.{IsAtSize}
use Rattle.pm_cli.specs.steps.Streams.{IsWritingRecords, IsWriting, HasAddedPrefix, HasAddedFirst}
use Rattle.pm_cli.proofs.MapRelations.{same_some, none_some}
use Rattle.pm_cli.proofs.OneText.{one_text}
use Rattle.pm_cli.proofs.Records.{AreWritten, one_more_written, records_go_on, first_written, next_in_prefix, records_once, added_prefix_as, added_first_as}

-- the map of an entry stands there
entry_stands : (entries : List (RotationSystem × ℕ)) (place : ℕ) (entry : RotationSystem × ℕ) → slice_get entries place ≡ Some entry → Stands entry.0 entries
entry_stands [] place entry is = absurd (none_some is)
entry_stands (first ∷ entries) zero entry is = inl (ap (λ (found : RotationSystem × ℕ). found.0) (sym (same_some is)))
entry_stands (first ∷ entries) (suc place) entry is = inr (entry_stands entries place entry is)

-- an entry has the map and the number of its place
entry_at : (entries : List (RotationSystem × ℕ)) (place : ℕ) (map : RotationSystem) (lists : ℕ) → slice_get (keys_of entries) place ≡ Some map → slice_get (values_of entries) place ≡ Some lists
    → slice_get entries place ≡ Some (map, lists)
entry_at [] place map lists key value = absurd (none_some key)
entry_at (entry ∷ entries) zero map lists key value = ap₂ (λ (m : RotationSystem) (n : ℕ). Some (m, n)) (same_some key) (same_some value)
entry_at (entry ∷ entries) (suc place) map lists key value = entry_at entries place map lists key value

-- what a record is, by the entry at its place
abbrev IsOfEntry : List (RotationSystem × ℕ) → Option (RotationSystem × ℕ) → List ℕ → Type 0
IsOfEntry entries found text = MatchOption found (text ≡ total_line entries) (λ entry. IsEntryText entry.0 entry.1 text)

pub record_of_entry : (entries : List (RotationSystem × ℕ)) (place : ℕ) (map : RotationSystem) (lists : ℕ) (text : List ℕ) → slice_get (keys_of entries) place ≡ Some map
    → slice_get (values_of entries) place ≡ Some lists → IsEntryText map lists text → IsCensusRecord entries place text
record_of_entry entries place map lists text key value is =
    subst (λ (found : Option (RotationSystem × ℕ)). IsOfEntry entries found text) (sym (entry_at entries place map lists key value)) is

pub last_record : (entries : List (RotationSystem × ℕ)) (text : List ℕ) → text ≡ total_line entries → IsCensusRecord entries (length entries) text
last_record entries text is = subst (λ (found : Option (RotationSystem × ℕ)). IsOfEntry entries found text) (sym (slice_get_past entries (length entries) (omega arith))) is

-- each place has a record, where the maps are canonical
some_record : (entries : List (RotationSystem × ℕ)) → ((map : RotationSystem) → Stands map entries → IsCanonical map) → (place : ℕ) → (text : List ℕ) × IsCensusRecord entries place text
some_record entries canonical place = by (slice_get entries place) refl
  where
    by : (found : Option (RotationSystem × ℕ)) → slice_get entries place ≡ found → (text : List ℕ) × IsOfEntry entries found text
    by None is = (total_line entries, refl)
    by (Some entry) is =
        let map_text = canonical_has_text entry.0 (canonical entry.0 (entry_stands entries place entry is)) in
        (map_text.0 ++ codes "lists " ++ decimal entry.1 ++ newline ∷ [], record { map_text = map_text.0; is_map_text = map_text.1; whole = refl })

pub census_goes_on : (entries : List (RotationSystem × ℕ)) (has : RotationSystem → Type 0) → HasEachMapOnce has entries → RecordsGoOn (IsCensusRecord entries)
census_goes_on entries has each = records_go_on (IsCensusRecord entries) (some_record entries (λ map there. let member = each.only map there in member.canonical))

-- and one
one_census_record : (entries : List (RotationSystem × ℕ)) (place : ℕ) (a b : List ℕ) → IsCensusRecord entries place a → IsCensusRecord entries place b → a ≡ b
one_census_record entries place a b x y = by (slice_get entries place) x y
  where
    by : (found : Option (RotationSystem × ℕ)) → IsOfEntry entries found a → IsOfEntry entries found b → a ≡ b
    by None x y = x ∙ sym y
    by (Some entry) x y =
        x.whole ∙ ap (λ (text : List ℕ). text ++ codes "lists " ++ decimal entry.1 ++ newline ∷ []) (one_text entry.0 x.map_text y.map_text x.is_map_text y.is_map_text) ∙ sym y.whole

-- the sum of the numbers, taken from the first on
pub sum_more : (entries : List (RotationSystem × ℕ)) (place lists : ℕ) → slice_get (values_of entries) place ≡ Some lists
    → (sum (take (place + 1) (values_of entries)) ≡ sum (take place (values_of entries)) + lists) × (sum (take place (values_of entries)) + lists ≤ sum (values_of entries))
sum_more entries place lists value =
    let within = slice_get_within (values_of entries) place lists value in
    let same = get_or_from_slice_get (values_of entries) place lists 0 value in (
      sum_by_more (λ (n : ℕ). n) (values_of entries) place 0 within ∙ ap (λ (n : ℕ). sum (take place (values_of entries)) + n) same,
      subst (λ (n : ℕ). sum (take place (values_of entries)) + n ≤ sum (values_of entries)) same (sum_by_more_le (λ (n : ℕ). n) (values_of entries) place 0 within),
    )

pub place_within : (entries : List (RotationSystem × ℕ)) (place : ℕ) (map : RotationSystem) → slice_get (keys_of entries) place ≡ Some map → place ≤ length entries
place_within entries place map key = omega (arith, slice_get_within (keys_of entries) place map key, length-keys_of entries)

pub sum_all : (entries : List (RotationSystem × ℕ)) → sum (take (length entries) (values_of entries)) ≡ sum (values_of entries)
sum_all entries =
    ap (λ (n : ℕ). sum (take n (values_of entries))) (sym (length-values_of entries)) ∙ ap (λ (numbers : List ℕ). sum numbers) (take-length (values_of entries))

-- where there is no census, nothing is written
pub no_census : (bounds : List ℕ) (samples : List ℕ → RotationSystem → List ℕ → Type 0) (first : List ℕ → Type 0) (old : Option (List ℕ)) (faults : ℕ) (why : CensusRefusal)
    → IsCensusAnswer bounds samples (Err why) → IsWritingRecords (Counts bounds samples) first old old faults faults (Err (stop_of_census why))
no_census bounds samples first old faults census.Memory is = (inl refl, refl)
no_census bounds samples first old faults census.TooManyLists many = (too_many many, refl, refl)

-- what is written of a census, so many records of it
module _ (bounds : List ℕ) (samples : List ℕ → RotationSystem → List ℕ → Type 0) (entries : List (RotationSystem × ℕ))
    (few : product bounds ≤ MOST_LISTS) (is_census : IsCensus bounds samples entries) (go_on : RecordsGoOn (IsCensusRecord entries)) (place : ℕ) where
  whole_text : (text : List ℕ) → AreRecords (IsCensusRecord entries) (length entries + 1) text → Counts bounds samples (Ok text)
  whole_text text are = counted text few (record { entries = entries; is_census = is_census; are_records = are })

  pub entries_written : (old new : Option (List ℕ)) → place ≤ length entries → AreWritten (IsCensusRecord entries) place old new
      → HasAddedFirst (HasFirstEntries bounds samples) (λ text. Counts bounds samples (Ok text)) old new
  entries_written old new l w =
      added_first_as (HasFirstRecords (IsCensusRecord entries) (length entries + 1)) (AreRecords (IsCensusRecord entries) (length entries + 1)) (HasFirstEntries bounds samples)
      (λ text. Counts bounds samples (Ok text)) old new (λ text first. record { entries = entries; is_census = is_census; are_first = first }) whole_text
      (first_written (IsCensusRecord entries) go_on place (length entries + 1) old new (omega arith) w)

  pub entry_in_prefix : (n : ℕ) (old mid new : Option (List ℕ)) (last : List ℕ) → place ≤ length entries → AreWritten (IsCensusRecord entries) place old mid
      → IsCensusRecord entries place last → new ≡ added mid (take n last) → HasAddedPrefix (λ text. Counts bounds samples (Ok text)) old new
  entry_in_prefix n old mid new last l w is adds =
      added_prefix_as (AreRecords (IsCensusRecord entries) (length entries + 1)) (λ text. Counts bounds samples (Ok text)) old new whole_text
      (next_in_prefix (IsCensusRecord entries) go_on place (length entries + 1) n old mid new last (omega arith) w is adds)

  -- the last line
  pub census_ends : (old mid new : Option (List ℕ)) (f g h : ℕ) (last : List ℕ) (result : Result (Unit {0}) Stop) → place ≡ length entries
      → AreWritten (IsCensusRecord entries) place old mid → last ≡ total_line entries → g ≡ f → IsWriting last mid new g h result
      → IsWritingRecords (Counts bounds samples) (HasFirstEntries bounds samples) old new f h result
  census_ends old mid new f g h last (Ok done) same w is calm written =
      let record_is = subst (λ (n : ℕ). IsCensusRecord entries n last) (sym same) (last_record entries last is) in
      let all = one_more_written (IsCensusRecord entries) place old mid new last w record_is written.0 in
      let are : AreRecords (IsCensusRecord entries) (length entries + 1) all.text = subst (λ (n : ℕ). AreRecords (IsCensusRecord entries) (n + 1) all.text) same all.are_records in
      (record { text = all.text; holds = whole_text all.text are; written = all.written }, written.1 ∙ calm)
  census_ends old mid new f g h last (Err Write) same w is calm written =
      let record_is = subst (λ (n : ℕ). IsCensusRecord entries n last) (sym same) (last_record entries last is) in
      (entry_in_prefix written.0.0 old mid new last (omega (arith, same)) w record_is written.0.1, subst (λ (x : ℕ). FaultsRose x h) calm written.1)
  census_ends old mid new f g h last (Err Read) same w is calm written = absurd written
  census_ends old mid new f g h last (Err Memory) same w is calm written = absurd written
  census_ends old mid new f g h last (Err (Refused refusal)) same w is calm written = absurd written

-- a census has one answer, where choices give one map
pub counts_once : (bounds : List ℕ) (samples : List ℕ → RotationSystem → List ℕ → Type 0) → HasOneSample samples → (a b : Result (List ℕ) Refusal)
    → Counts bounds samples a → Counts bounds samples b → a ≡ b
counts_once bounds samples one _ _ (counted a few x) (counted b less y) =
    let same : x.entries ≡ y.entries = one_census bounds samples x.entries y.entries one x.is_census y.is_census in
    ap Ok (records_once (IsCensusRecord y.entries) (one_census_record y.entries) (length y.entries + 1) a b
    (subst (λ (entries : List (RotationSystem × ℕ)). AreRecords (IsCensusRecord entries) (length entries + 1) a) same x.are_records) y.are_records)
counts_once bounds samples one _ _ (counted a few x) (too_many many) = absurd (omega arith)
counts_once bounds samples one _ _ (too_many many) (counted b few y) = absurd (omega arith)
counts_once bounds samples one _ _ (too_many many) (too_many more) = refl

-- and it has one
pub counts_answered : (at : AtSize) → IsAtSize at → IsAnswered (Counts at.choice_limits at.samples)
unfolding AreRecords
counts_answered at laws told = elim (cases_lt MOST_LISTS (product at.choice_limits)) [
  | inl many ↦ told (Err (Limited Lists)) (too_many many)
  | inr few ↦
      let limits = laws.limits in
      let found = some_census at.choice_limits at.residue_limits at.has at.samples laws.one_to_one in
      let each = has_each_map_once at.choice_limits at.residue_limits at.has at.samples found.0 limits.residue_bounds laws.one_to_one found.1 in
      let all = census_goes_on found.0 at.has each 0 (length found.0 + 1) [] (omega arith) refl in
      told (Ok all.0) (counted all.0 few (record { entries = found.0; is_census = found.1; are_records = all.1 }))
]
