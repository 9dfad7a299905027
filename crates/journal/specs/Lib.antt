pub mod disk_journal
