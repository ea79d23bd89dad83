pub mod JobLogs
