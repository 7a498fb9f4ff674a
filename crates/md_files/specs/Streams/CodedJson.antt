-- What callers see of a sink of JSON.
use Rattle.std.specs.Prelude.{ℕ, Bool, List, Option, None, if◌then◌else◌}
use Rattle.md_files.specs.declared.streams.coded_json.CodedJson.{CodedJson}

-- the sink below
abbrev pub json_sink_of : {S : Type 0} → CodedJson S → S
json_sink_of s = s.out

-- whether what hides stands as its code
abbrev pub is_coded_json : {S : Type 0} → CodedJson S → Bool
is_coded_json s = s.is_json

-- how many bytes are held of a character that is not whole yet
abbrev pub held_count : {S : Type 0} → CodedJson S → ℕ
held_count s = s.count

-- What the sink below has, where it has each byte as it was put.
abbrev pub json_contents : {S : Type 0} → (S → Option (List ℕ)) → CodedJson S → Option (List ℕ)
json_contents contents s = if s.is_json then None else contents s.out
