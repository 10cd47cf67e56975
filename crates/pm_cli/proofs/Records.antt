-- Texts that are written record by record.
use Rattle.std.proofs.Common.{◌≡◌, ℕ, zero, suc, ◌+◌, ◌<◌, ◌≤◌, inl, inr, List, [], ◌++◌, length, take, drop, append_assoc, add-one, refl, sym, ap, ap₂, ◌∙◌, subst, arith}
use Rattle.std.specs.Prelude.{Option, None, Some}
use Rattle.std.proofs.Math.Seq.{take-append_seam}
use Rattle.std.proofs.lemmas.Bool.{cases_lt}
use Rattle.std.proofs.lemmas.List.{append-nil, take-append-drop}
use Rattle.pm_io.specs.Bytes.{added}
use Rattle.pm_cli.specs.Records.{AreRecords, HasFirstRecords, RecordsGoOn}
use Rattle.pm_cli.specs.steps.Streams.{HasAddedPrefix, HasAddedFirst}

-- pieces added one after another
pub added_twice : (old : Option (List ℕ)) (a b : List ℕ) → added (added old a) b ≡ added old (a ++ b)
added_twice None a b = refl
added_twice (Some held) a b = ap Some (append_assoc held a b)

added_nothing : (old : Option (List ℕ)) → added old [] ≡ old
added_nothing None = refl
added_nothing (Some held) = ap Some (append-nil held)

-- a prefix of a text of some kind is written
prefix_written : (text_is : List ℕ → Type 0) (old new : Option (List ℕ)) (prefix rest : List ℕ) → text_is (prefix ++ rest) → new ≡ added old prefix → HasAddedPrefix text_is old new
prefix_written text_is old new prefix rest is adds =
    record { text = prefix ++ rest; holds = is; prefix = length prefix; written = adds ∙ ap (added old) (sym (take-append_seam prefix rest)) }

-- the records that are written so far
pub record AreWritten (is_record : ℕ → List ℕ → Type 0) (count : ℕ) (old new : Option (List ℕ)) : Type 0 where
  pub text : List ℕ
  pub are_records : AreRecords is_record count text
  pub written : new ≡ added old text

module _ (is_record : ℕ → List ℕ → Type 0) where
  pub none_written : (old : Option (List ℕ)) → AreWritten is_record 0 old old
  unfolding AreRecords
  none_written old = record { text = []; are_records = refl; written = sym (added_nothing old) }

  -- the text with one more record
  one_more_text : (count : ℕ) (old new : Option (List ℕ)) (last : List ℕ) → (w : AreWritten is_record count old new) → is_record count last → AreRecords is_record (count + 1) (w.text ++ last)
  unfolding AreRecords
  one_more_text count old new last w is =
      subst (λ (n : ℕ). AreRecords is_record n (w.text ++ last)) (sym (add-one count)) (record { prefix = w.text; is_prefix = w.are_records; back = last; is_back = is; whole = refl })

  pub one_more_written : (count : ℕ) (old mid new : Option (List ℕ)) (last : List ℕ) → AreWritten is_record count old mid → is_record count last → new ≡ added mid last
      → AreWritten is_record (count + 1) old new
  one_more_written count old mid new last w is adds = record {
    text = w.text ++ last;
    are_records = one_more_text count old mid last w is;
    written = adds ∙ ap (λ (o : Option (List ℕ)). added o last) w.written ∙ added_twice old w.text last;
  }

  -- where each place has a record, first records are a prefix of more
  module _ (each : (place : ℕ) → (text : List ℕ) × is_record place text) where
    -- no more records than there are
    as_many : (fewer more : ℕ) (text : List ℕ) → fewer ≡ more → AreRecords is_record fewer text → (rest : List ℕ) × AreRecords is_record more (text ++ rest)
    as_many fewer more text same are =
        ([], subst (AreRecords is_record more) (sym (append-nil text)) (subst (λ (n : ℕ). AreRecords is_record n text) same are))

    -- and more records
    pub records_go_on : RecordsGoOn is_record
    unfolding AreRecords
    records_go_on fewer zero text l are = as_many fewer 0 text (omega arith) are
    records_go_on fewer (suc more) text l are = elim (cases_lt more fewer) [
      | inl all ↦ as_many fewer (suc more) text (omega arith) are
      | inr less ↦
          let prefix = records_go_on fewer more text less are in
          let last = each more in (
            prefix.0 ++ last.0,
            subst (AreRecords is_record (suc more)) (append_assoc text prefix.0 last.0)
                (record { prefix = text ++ prefix.0; is_prefix = prefix.1; back = last.0; is_back = last.1; whole = refl }),
          )
    ]

  -- where first records are a prefix of more
  module _ (go_on : RecordsGoOn is_record) (count all : ℕ) where
    -- the first records are written
    pub first_written : (old new : Option (List ℕ)) → count ≤ all → AreWritten is_record count old new → HasAddedFirst (HasFirstRecords is_record all) (AreRecords is_record all) old new
    first_written old new l w =
        let more = go_on count all w.text l w.are_records in
        record { begun = w.text; records = record { records = count; within = l; are_records = w.are_records }; rest = more.0; holds = more.1; written = w.written }

    -- the first records are written, as a prefix of all
    pub first_in_prefix : (old mid new : Option (List ℕ)) → count ≤ all → AreWritten is_record count old mid → new ≡ mid → HasAddedPrefix (AreRecords is_record all) old new
    first_in_prefix old mid new l w stays =
        let more = go_on count all w.text l w.are_records in
        prefix_written (AreRecords is_record all) old new w.text more.0 more.1 (stays ∙ w.written)

    -- the first records are written, and a prefix of one more
    pub next_in_prefix : (n : ℕ) (old mid new : Option (List ℕ)) (last : List ℕ) → count < all → AreWritten is_record count old mid → is_record count last
        → new ≡ added mid (take n last) → HasAddedPrefix (AreRecords is_record all) old new
    next_in_prefix n old mid new last l w is adds =
        let more = go_on (count + 1) all (w.text ++ last) (omega arith) (one_more_text count old mid last w is) in
        let same : (w.text ++ last) ++ more.0 ≡ (w.text ++ take n last) ++ (drop n last ++ more.0) =
        ap (λ (t : List ℕ). (w.text ++ t) ++ more.0) (sym (take-append-drop n last)) ∙ ap (λ (t : List ℕ). t ++ more.0) (sym (append_assoc w.text (take n last) (drop n last)))
        ∙ append_assoc (w.text ++ take n last) (drop n last) more.0 in
        prefix_written (AreRecords is_record all) old new (w.text ++ take n last) (drop n last ++ more.0)
        (subst (AreRecords is_record all) same more.1)
        (adds ∙ ap (λ (o : Option (List ℕ)). added o (take n last)) w.written ∙ added_twice old w.text (take n last))

  -- where a place has one record, so many have one text
  pub records_once : ((place : ℕ) (a b : List ℕ) → is_record place a → is_record place b → a ≡ b) → (count : ℕ) (a b : List ℕ)
      → AreRecords is_record count a → AreRecords is_record count b → a ≡ b
  unfolding AreRecords
  records_once one zero a b x y = x ∙ sym y
  records_once one (suc count) a b x y =
      x.whole ∙ ap₂ (λ (s t : List ℕ). s ++ t) (records_once one count x.prefix y.prefix x.is_prefix y.is_prefix) (one count x.back y.back x.is_back y.is_back) ∙ sym y.whole

-- what is added as a text of one kind, is added as one of another
pub added_prefix_as : (one other : List ℕ → Type 0) (old new : Option (List ℕ)) → ((text : List ℕ) → one text → other text) → HasAddedPrefix one old new → HasAddedPrefix other old new
added_prefix_as one other old new is h = record { text = h.text; holds = is h.text h.holds; prefix = h.prefix; written = h.written }

pub added_first_as : (first one begun other : List ℕ → Type 0) (old new : Option (List ℕ)) → ((text : List ℕ) → first text → begun text) → ((text : List ℕ) → one text → other text)
    → HasAddedFirst first one old new → HasAddedFirst begun other old new
added_first_as first one begun other old new starts is h =
    record { begun = h.begun; records = starts h.begun h.records; rest = h.rest; holds = is (h.begun ++ h.rest) h.holds; written = h.written }
