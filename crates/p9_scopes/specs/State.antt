-- What is known, as the plain data that the definitions of typing speak of.
use Rattle.p9_lang.specs.Types.{types_of, all_meant, tags_of}
use Rattle.p9_lang.specs.Scopes as scopes
use Rattle.p9_scopes.specs.declared.known.Known.{Known}
use Rattle.p9_scopes.specs.Seen.{levels_of, tag_levels_of}

abbrev pub known_of : Known → scopes.Known
known_of s = record {
  types = types_of s.types;
  means = all_meant s.binds;
  names = levels_of s.names;
  tag_names = tag_levels_of s.tag_names;
  tags = tags_of s.tags;
  statics = s.statics;
  autos = s.autos;
  bodies = s.bodies;
}
