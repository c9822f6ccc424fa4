-- Worked reports of any codebook, as rows of a table: what is asked, and what is answered.
use mathlib.Core.List.{List, [], ◌∷◌, ◌++◌, map}
use Prim.Native.Nat.{ℕ, ◌-◌, ◌/◌, ◌%◌, ◌^◌}
use lib.Dec.{eqb}
use lib.ListN.{length, take, drop, replicate}
use Rattle.ground.specs.Cases.{◌⇒◌∣◌}
use Rattle.ground.specs.Lists.{join, along, places, numbers_from, some}
use Rattle.ground.specs.First.{first}
use Rattle.turn.specs.declared.Beam.{Beam}
use Rattle.turn.specs.Phase.{turn, difference}
use Rattle.turn.specs.Column.{steps, product, grid, step, beam, column}
use Rattle.turn.specs.Exact.{count, differences}
use Rattle.offsets.specs.Offsets.{fed, unfit}
use Rattle.plan.specs.declared.Record.{Record}
use Rattle.plan.specs.Plan.{no_beam, named, column_of}
use Rattle.plan.specs.Offsets.{fed_column, fed_matrix}
use Rattle.plan.specs.Masks.{bit, is_zero, barred, rank_barred}
use Rattle.plan.specs.Answer.{Codebook, asked, refused, planned, record_of, buffer_of, early, test, refusal}

-- a report with its beam mask, its rank mask, the offsets of its ports and the length of the lent buffer; the record that it
-- is given; entries of the buffer afterwards, from a place on; and all differences between layers 1 and 2, each with the number of its ports,
-- or none where nothing is said of them
pub record Row (R : Type 0) : Type 0 where
  pub report : R
  pub mask : List ℕ
  pub ranks : ℕ
  pub offsets : List ℕ
  pub room : ℕ
  pub given : Record
  pub place : ℕ
  pub entries : List ℕ
  pub differ : List (ℕ × ℕ)

-- a mask of so many bytes, all bits ones
abbrev pub ones : ℕ → List ℕ
ones bytes = replicate bytes 255

-- the same but for bit k, which is zero
abbrev pub ones_but : ℕ → ℕ → List ℕ
ones_but bytes k = ones (k / 8) ++ ((255 - 2 ^ (k % 8)) ∷ ones (bytes - k / 8 - 1))

-- a buffer of so many entries as it is lent: no phase
abbrev pub fresh : ℕ → List ℕ
fresh room = replicate room 65535

-- a row in which all bits of the rank mask are ones, and p ports have offsets of 0
abbrev pub row : {R : Type 0} → ℕ → R → List ℕ → ℕ → Record → ℕ → List ℕ → List (ℕ × ℕ) → Row R
row p r mask room given place xs ds = record {
  report = r;
  mask = mask;
  ranks = 255;
  offsets = replicate p 0;
  room = room;
  given = given;
  place = place;
  entries = xs;
  differ = ds;
}

-- the beams of some layers, by their numbers, in eight places
abbrev pub in_places : List (ℕ × ℕ) → List Beam
in_places xs = places 8 no_beam (map (λ x. record { l = x.0; m = x.1 }) xs)

-- accepted, with the beams of its layers, some of its entries and the differences between layers 1 and 2
abbrev pub differs : {R : Type 0} → R → List ℕ → ℕ → ℕ → ℕ → List (ℕ × ℕ) → ℕ → List ℕ → List (ℕ × ℕ) → Row R
differs r mask p v scale beams =
    row p r mask scale (record { refusal = 0; ports = p; layers = v; scale = scale; beams = in_places beams })

-- accepted, with the beams of its layers and some of its entries
abbrev pub accepts : {R : Type 0} → R → List ℕ → ℕ → ℕ → ℕ → List (ℕ × ℕ) → ℕ → List ℕ → Row R
accepts r mask p v scale beams place entries = differs r mask p v scale beams place entries []

-- refused, and the whole buffer as lent
abbrev pub refuses : {R : Type 0} → ℕ → R → List ℕ → ℕ → ℕ → Row R
refuses p r mask room k = row p r mask room (refused k) 0 (fresh room) []

-- the same row with another rank mask, and with other offsets
abbrev pub ranked : {R : Type 0} → ℕ → Row R → Row R
ranked ranks x = record {
  report = x.report;
  mask = x.mask;
  ranks = ranks;
  offsets = x.offsets;
  room = x.room;
  given = x.given;
  place = x.place;
  entries = x.entries;
  differ = x.differ;
}

abbrev pub offset_by : {R : Type 0} → List ℕ → Row R → Row R
offset_by offsets x = record {
  report = x.report;
  mask = x.mask;
  ranks = x.ranks;
  offsets = offsets;
  room = x.room;
  given = x.given;
  place = x.place;
  entries = x.entries;
  differ = x.differ;
}

-- what a row says
unfoldable pub said : {R : Type 0} → Row R → Record × List ℕ × List (ℕ × ℕ)
said x = (x.given, x.entries, x.differ)

-- each phase that occurs in a list, with how often it does
unfoldable pub tally : List ℕ → List (ℕ × ℕ)
tally es = along (numbers_from 0 turn) (λ e. eqb (count es e) 0 ⇒ [] ∣ (e, count es e) ∷ [])

-- that of the differences between layers 1 and 2, of p ports each, where something is said of them
unfoldable pub tallied : List (ℕ × ℕ) → ℕ → List ℕ → List (ℕ × ℕ)
tallied [] p left = []
tallied (x ∷ xs) p left = tally (differences (take p left) (take p (drop p left)))

-- what the definitions give, for a codebook
unfoldable pub defined_by : {R : Type 0} → Codebook R → Row R → Record × List ℕ × List (ℕ × ℕ)
unfolding
    steps product grid step beam column
    places some join first named column_of
    fed unfit fed_column fed_matrix
    bit is_zero barred rank_barred
    early test refusal numbers_from count difference differences tally tallied
defined_by b x =
    let number = refusal b (asked x.report x.mask x.ranks x.offsets x.room) in
    let left = buffer_of number (fed_matrix x.offsets (b.plan x.report)) (fresh x.room) in
    let given = record_of (planned (b.plan x.report)) number in
    (given, take (length x.entries) (drop x.place left), tallied x.differ given.ports left)
