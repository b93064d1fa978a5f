-- The ends of a pledge's lists: the number of the last entry, the last secret, and how many extensions there are.
use Rattle.pawn_tables.specs.Common.{Row, PledgeValue, brief_of, last_element, Entry, Issued}
use Rattle.pawn_tables.specs.Rows.{secret_cells}
use Rattle.pawn_tables.specs.declared.joining.LastSecret.{LastSecret}
use Rattle.pawn_tables.specs.declared.joining.ListEnds.{ListEnds}
use Rattle.pawn_pledge.specs.declared.brief.BriefFields.{BriefFields}
use Rattle.std.specs.Prelude.{◌≡◌, ℕ, List, length, Option, option_map, unwrap_or}

-- the number of the last entry, or 0 if there is none
abbrev pub last_seq : List Entry → ℕ
last_seq entries = unwrap_or (option_map (λ (e : Entry). e.seq) (last_element entries)) 0

-- the last secret, with its place, which is the number of the secrets
abbrev pub last_issued : List Issued → Option LastSecret
last_issued secrets = option_map (λ (i : Issued). record { place = length secrets; issued = i }) (last_element secrets)

-- the cells of its row, without the pledge's primary key
abbrev pub last_cells : LastSecret → Row
last_cells l = secret_cells l.place l.issued

-- the ends are those of the lists of a pledge
pub record AreListEnds (t : ListEnds) (p : PledgeValue) : Type 0 where
  pub last_entry : t.last_entry ≡ last_seq p.entries
  pub last : t.last ≡ last_issued p.secrets
  pub extensions : t.extensions ≡ length p.extensions

-- the brief of a pledge as it is read from its rows: the number of its last entry is taken for how many entries it has
abbrev pub stored_brief : PledgeValue → BriefFields
stored_brief p = record (brief_of p) {
  counts = record { entries = last_seq p.entries; secrets = length p.secrets; extensions = length p.extensions };
}
