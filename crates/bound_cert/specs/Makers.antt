-- The certificates that are made from hops, and those by growth.
use Rattle.std.specs.Prelude.{◌≡◌, ℕ, true, false, ◌+◌, ◌<◌, ◌≤◌, ◌⊎◌, List, [], length, replicate, slice_index, slice_index_or, slice_set}
use Rattle.tdm_problem.specs.Board.{Board}
use Rattle.tdm_problem.specs.Distance.{IsDistance}
use Rattle.shortest_forest.specs.Reach.{HasNoWalk}
use Rattle.bound_cert.specs.declared.certificate.CertKind.{CertKind}
use Rattle.bound_cert.specs.declared.certificate.CertKind.TheVariants.{Share, Hop}
use Rattle.bound_cert.specs.Limits.{uniform_weight}
use Rattle.bound_cert.specs.Certificate.{Cert, weight_of, length_of, value_at}
use Rattle.tdm_problem.specs.Legal.{source_of}
use Rattle.bound_cert.specs.Sources.{sources_of}
use Rattle.bound_cert.specs.Depths.{AreDepths, group_depth}
use Rattle.bound_cert.specs.Floors.{uniform_length}

-- the value at FPGA f is its distance from the source, or 0 where no wires lead there
abbrev pub IsSourceValue : Board → (ℕ → ℕ) → (source f value : ℕ) → Type 0
IsSourceValue board wire_length source f value = IsDistance board wire_length source f value
    ⊎ (HasNoWalk board source f × (value ≡ 0))

-- each FPGA's value is its distance from the source, or 0 where no wires lead there
pub record IsSourcePotential (board : Board) (wire_length : ℕ
    → ℕ) (source : ℕ) (potential : List ℕ) : Type 0 where
  pub count : length potential ≡ board.fpgas
  pub values : (f : ℕ) → f < board.fpgas → IsSourceValue board wire_length source f (value_at potential f)

-- there is a potential for each of these FPGAs, in order
pub record ArePotentialsFrom (board : Board) (wire_length : ℕ → ℕ) (sources : List ℕ)
    (potentials : List (List ℕ)) : Type 0 where
  pub count : length potentials ≡ length sources
  pub each : (p : ℕ) → p < length sources
      → IsSourcePotential board wire_length (slice_index sources p) (slice_index_or potentials p [])

-- there is a potential for each source, in order
abbrev pub AreSourcePotentials : Board → (ℕ → ℕ) → List (List ℕ) → Type 0
AreSourcePotentials board wire_length potentials =
    ArePotentialsFrom board wire_length (sources_of board) potentials

-- the number, less 1, is that of the source among the sources
pub record IsChoiceAmong (sources : List ℕ) (source choice : ℕ) : Type 0 where
  pub place : ℕ
  pub there : place < length sources
  pub choice_is : choice ≡ place + 1
  pub source_is : slice_index sources place ≡ source

-- each net chooses the potential of its source
pub record ChooseSources (board : Board) (choices : List ℕ) : Type 0 where
  pub count : length choices ≡ length board.nets
  pub each : (n : ℕ) → n < length board.nets
      → IsChoiceAmong (sources_of board) (source_of board n) (slice_index choices n)

-- the potentials are those of the sources, at the certificate's lengths, and each net chooses that of its
-- source
pub record HasSourcePotentials (board : Board) (cert : Cert) : Type 0 where
  pub potentials : AreSourcePotentials board (length_of cert) cert.potentials
  pub choices : ChooseSources board cert.choices

-- the depths of group g's nets are together the most, and those of each group before it are less
pub record IsFirstDeepest (board : Board) (depths : List ℕ) (g : ℕ) : Type 0 where
  pub there : g < length board.groups
  pub most : (k : ℕ) → k < length board.groups
      → group_depth depths (slice_index_or board.groups k [])
      ≤ group_depth depths (slice_index_or board.groups g [])
  pub first : (k : ℕ) → k < g
      → group_depth depths (slice_index_or board.groups k [])
      < group_depth depths (slice_index_or board.groups g [])

-- the group has weight 1 where it is the first of the deepest, and else 0
abbrev pub IsHopWeight : Board → (depths : List ℕ) → (g weight : ℕ) → Type 0
IsHopWeight board depths g weight = (IsFirstDeepest board depths g × (weight ≡ 1))
    ⊎ ((¬ IsFirstDeepest board depths g) × (weight ≡ 0))

-- the certificate by hops of unit 1, for the first of the deepest groups
pub record IsHopGroupCert (board : Board) (cert : Cert) : Type 0 where
  pub depths : List ℕ
  pub are_depths : AreDepths board depths
  pub kind : cert.kind ≡ Hop 1
  pub chosen : cert.grows ≡ false
  pub weights : (g : ℕ) → g < length board.groups → IsHopWeight board depths g (weight_of cert g)
  pub lengths : (e : ℕ) → e < length board.wires → length_of cert e ≡ 1
  pub potentials : HasSourcePotentials board cert

-- the certificate by shares with one weight for all groups and one length for all wires
pub record IsUniformShareCert (board : Board) (cert : Cert) : Type 0 where
  pub depths : List ℕ
  pub are_depths : AreDepths board depths
  pub kind : cert.kind ≡ Share
  pub chosen : cert.grows ≡ false
  pub weights : (g : ℕ) → g < length board.groups → weight_of cert g ≡ uniform_weight
  pub lengths : (e : ℕ) → e < length board.wires → length_of cert e ≡ uniform_length board depths
  pub potentials : HasSourcePotentials board cert

-- the certificate by growth of this kind, with these weights of groups and lengths of wires
abbrev pub growing_cert : Board → CertKind → (weights lengths : List ℕ) → Cert
growing_cert board kind weights lengths = record {
  kind = kind;
  grows = true;
  weights = weights;
  lengths = lengths;
  potentials = [];
  choices = replicate (length board.nets) 0;
}

-- the one by hops of unit 1, where group g has the weight 1 and all others 0
abbrev pub group_growing_cert : Board → (g : ℕ) → Cert
group_growing_cert board g = growing_cert board (Hop 1) (slice_set (replicate (length board.groups) 0) g 1)
    (replicate (length board.wires) 1)
