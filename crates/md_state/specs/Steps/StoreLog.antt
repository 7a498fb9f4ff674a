-- The log of a member was stored as its list is.
use Rattle.std.specs.Prelude.{true}
use Rattle.md_kept_members.specs.Enrolling.{logged_superblock}
use Rattle.md_kept_members.specs.View.{MemberView}

-- a member whose log was stored: its superblock is to tell of it, and is due
abbrev pub logged : MemberView → MemberView
logged m = record m { superblock = logged_superblock m.bad m.superblock; due = true }
